use Rattle.std.proofs.Common.{ℕ, List, sym, ap, ◌∙◌, arith}
use Rattle.std.specs.Str.{bytes_eq}
use Rattle.std.proofs.lemmas.Bool.{or_from}
use Rattle.std.proofs.lemmas.List.Folds.{list_any_at, list_any_more}
use Rattle.std.proofs.lemmas.Option.{get_or_from_slice_get}
use Rattle.value_types.proofs.nulls.is_among.Goals as goal

pub returns-then-eq : goal.returns-then-eq
returns-then-eq c =
    let texts : List (List ℕ) = c.args.texts.now in
    let value : List ℕ = c.args.value.now in
    let text : List ℕ = c.get.result.now in
    sym (list_any_at (bytes_eq value) texts c.loop-number.number text (omega (arith, c.loop-number-test.true, c.len-number-end.ensures))
    (ap (bytes_eq value) (get_or_from_slice_get texts c.loop-number.number text text c.get.ensures) ∙ sym c.eq.ensures ∙ c.if-eq.true))

pub loop-number-preserved : goal.loop-number-preserved
loop-number-preserved c =
    let texts : List (List ℕ) = c.args.texts.now in
    let value : List ℕ = c.args.value.now in
    let text : List ℕ = c.get.result.now in
    list_any_more (bytes_eq value) texts c.loop-number.number text (omega (arith, c.loop-number-test.true, c.len-number-end.ensures))
    ∙ or_from _ _ c.loop-number.invariant (ap (bytes_eq value) (get_or_from_slice_get texts c.loop-number.number text text c.get.ensures) ∙ sym c.eq.ensures ∙ c.if-eq.false)
