use Rattle.std.proofs.Common.{◌≡◌, length, refl, ◌∙◌, arith, None}
use Rattle.value_types.specs.declared.types.Value.TheVariants as values
use Rattle.value_types.specs.Datum.{typed}
use Rattle.value_types.specs.Extent.{extent_with}
use Rattle.value_types.proofs.MarkedSteps.{fold_plain, unmarked}
use Rattle.value_types.proofs.measuring.extent_of.Goals as goal

pub returns-then-is_empty : goal.returns-then-is_empty
returns-then-is_empty c =
    let none : length c.args.nulls.now ≡ 0 = grind (arith, c.if-is_empty.ensures) in
    c.extent_of_plain.ensures ∙ fold_plain (λ n. typed (values.Int n)) extent_with None c.args.rows c.args.nulls.now c.args.numbers.now _ (unmarked c.args.nulls.now none) refl
