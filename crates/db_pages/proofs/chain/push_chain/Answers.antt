use Rattle.std.proofs.Common.{◌≡◌, ◌+◌, ◌-◌, ◌++◌, ◌∙◌, ℕ, List, length, replicate, sym, ap, arith}
use Rattle.std.proofs.lemmas.Result.{on_ok_weaker}
use Rattle.db_pages.specs.Numbers.{four_bytes}
use Rattle.db_pages.proofs.Appends.{three_behind}
use Rattle.db_pages.proofs.Chains.{chain-step, chain-end}
use Rattle.db_pages.proofs.chain.push_chain.Goals as goal

pub loop-rest-preserved : goal.loop-rest-preserved
loop-rest-preserved c =
    let next : c.in_ok-place.place ≡ c.loop-rest.place + 1 = grind arith in
    let number = c.in_ok-append.ensures.ok ∙ ap (λ xs. c.loop-rest.into.items ++ xs) c.in_ok-number_bytes.ensures in
    chain-step c.loop-rest.place c.in_ok-place.place c.loop-rest.rest.now c.split_at.result.0.now c.split_at.result.1.now
    _ c.loop-rest.into.items c.append.new.into.items c.append-in-loop-rest.new.into.items
    (omega (arith, c.loop-rest-test.true)) next c.split_at.ensures.front c.split_at.ensures.back c.loop-rest.invariant number c.in_ok-append-2.ensures.ok

pub returns : goal.returns
returns c =
    let rest : List ℕ = c.loop-rest.rest.now in
    let short = c.loop-rest-test.false in
    record {
      ok = on_ok_weaker c.push_zeros.result
          (λ out. three_behind c.loop-rest.into.items (four_bytes 0) rest (replicate (4092 - length rest) 0) _ _ _ c.in_ok-append-3.ensures.ok c.in_ok-append-4.ensures.ok out
          ∙ ap (λ xs. c.loop-rest.into.items ++ xs) (sym (chain-end c.loop-rest.place rest (omega (arith, short)))) ∙ sym c.loop-rest.invariant) c.push_zeros.ensures.ok;
    }
