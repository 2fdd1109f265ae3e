use Rattle.std.proofs.Common.{◌≡◌, ◌+◌, List, ℕ, ◌++◌, length, take, ap, ◌∙◌, arith, length-append}
use Rattle.std.proofs.Math.Seq.{take-append_seam}
use Rattle.std.proofs.lemmas.List.{with_items_is}
use Rattle.csv_source.proofs.buffer.Buffer.replace.Goals as goal

pub returns-clause-ok : goal.returns-clause-ok
returns-clause-ok c =
    let rest : List ℕ = c.split_at_mut-front.result.1.now in
    let front : List ℕ = c.split_at_mut-front.result.0.now in
    let copied : length c.copy_from_slice.new.self ≡ length front = c.copy_from_slice.ensures.len in
    let whole : length c.deref_mut.result.now ≡ length front + length rest = ap length c.split_at_mut-front.ensures.value ∙ length-append front rest in
    ap (take _) (with_items_is c.extend.new.memory (c.copy_from_slice.new.self ++ rest) (omega (arith, whole, copied, c.deref_mut.ensures.len, length-append c.copy_from_slice.new.self rest)))
    ∙ ap (λ xs. take (length c.args.bytes.now) (xs ++ rest)) c.copy_from_slice.ensures.after
    ∙ take-append_seam c.args.bytes.now rest
