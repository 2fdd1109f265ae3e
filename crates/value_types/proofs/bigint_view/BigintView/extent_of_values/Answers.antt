use Rattle.std.proofs.Common.{◌≡◌, length, ap, ◌∙◌, arith}
use Rattle.value_types.specs.Extent.{extent_of}
use Rattle.value_types.specs.Marked.{bigint_cells}
use Rattle.value_types.specs.Packed.{numbers_in}
use Rattle.value_types.proofs.MarkedSteps.{unmarked}
use Rattle.value_types.proofs.Within.{values_within}
use Rattle.value_types.proofs.bigint_view.BigintView.extent_of_values.Goals as goal

pub returns-then-is_empty : goal.returns-then-is_empty
returns-then-is_empty c =
    let view = c.args.self.now in
    let none : length view.nulls.now ≡ 0 = grind (arith, c.if-is_empty.ensures) in
    values_within c.args.rows view.nulls.now (numbers_in view.values) c.extent.result (unmarked view.nulls.now none) (omega (arith, c.requires)) c.extent.ensures

pub returns : goal.returns
returns c =
    let view = c.args.self.now in
    let rows = c.args.rows in
    let whole = c.new.result in
    values_within rows whole.nulls.now (numbers_in view.values) c.extent-2.result c.new.ensures.nulls (omega (arith, c.requires))
    (c.extent-2.ensures ∙ ap (λ numbers. extent_of rows (bigint_cells whole.nulls.now (numbers_in numbers))) c.new.ensures.value)
