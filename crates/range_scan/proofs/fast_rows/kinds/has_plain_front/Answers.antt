use Rattle.std.proofs.Common.{ℕ, List, Bool, sym, ap, ◌∙◌, arith}
use Rattle.std.proofs.lemmas.Bool.{or_from}
use Rattle.std.proofs.lemmas.List.Folds.{list_any_at, list_any_more}
use Rattle.std.proofs.lemmas.Option.{get_or_from_slice_get}
use Rattle.range_scan.specs.FastRows.{begins_plain, is_plain_in}
use Rattle.range_scan.proofs.fast_rows.kinds.has_plain_front.Goals as goal

pub returns-then-is_plain_front : goal.returns-then-is_plain_front
returns-then-is_plain_front c =
    let texts : List (List ℕ) = c.args.texts.now in
    let text : List ℕ = c.get.result.now in
    let begins : List ℕ → Bool = begins_plain (is_plain_in c.args.types.now) in
    sym (list_any_at begins texts c.loop-number.number text (omega (arith, c.loop-number-test.true, c.len-number-end.ensures))
    (ap begins (get_or_from_slice_get texts c.loop-number.number text text c.get.ensures) ∙ sym c.is_plain_front.ensures ∙ c.if-is_plain_front.true))

pub loop-number-preserved : goal.loop-number-preserved
loop-number-preserved c =
    let texts : List (List ℕ) = c.args.texts.now in
    let text : List ℕ = c.get.result.now in
    let begins : List ℕ → Bool = begins_plain (is_plain_in c.args.types.now) in
    list_any_more begins texts c.loop-number.number text (omega (arith, c.loop-number-test.true, c.len-number-end.ensures))
    ∙ or_from _ _ c.loop-number.invariant (ap begins (get_or_from_slice_get texts c.loop-number.number text text c.get.ensures) ∙ sym c.is_plain_front.ensures ∙ c.if-is_plain_front.false)
