use Rattle.std.proofs.Common.{ℕ, List, sym, ap, ◌∙◌, arith}
use Rattle.std.proofs.lemmas.Bool.{or_from}
use Rattle.std.proofs.lemmas.List.Folds.{list_any_at, list_any_more}
use Rattle.std.proofs.lemmas.Option.{get_or_from_slice_get}
use Rattle.range_scan.specs.FastRows.{has_byte}
use Rattle.range_scan.proofs.fast_rows.kinds.have_byte.Goals as goal

pub returns-then-has_byte : goal.returns-then-has_byte
returns-then-has_byte c =
    let texts : List (List ℕ) = c.args.texts.now in
    let text : List ℕ = c.get.result.now in
    sym (list_any_at (has_byte c.args.byte) texts c.loop-number.number text (omega (arith, c.loop-number-test.true, c.len-number-end.ensures))
    (ap (has_byte c.args.byte) (get_or_from_slice_get texts c.loop-number.number text text c.get.ensures) ∙ sym c.has_byte.ensures ∙ c.if-has_byte.true))

pub loop-number-preserved : goal.loop-number-preserved
loop-number-preserved c =
    let texts : List (List ℕ) = c.args.texts.now in
    let text : List ℕ = c.get.result.now in
    list_any_more (has_byte c.args.byte) texts c.loop-number.number text (omega (arith, c.loop-number-test.true, c.len-number-end.ensures))
    ∙ or_from _ _ c.loop-number.invariant (ap (has_byte c.args.byte) (get_or_from_slice_get texts c.loop-number.number text text c.get.ensures) ∙ sym c.has_byte.ensures ∙ c.if-has_byte.false)
