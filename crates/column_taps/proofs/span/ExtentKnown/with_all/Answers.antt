use Rattle.std.proofs.Common.{◌∙◌, ap, sym, take}
use Rattle.std.specs.List.{fold}
use Rattle.value_types.specs.Extent.{extent_with, widened}
use Rattle.value_types.specs.Marked.{bigint_cells}
use Rattle.value_types.specs.Views.{view_cells}
use Rattle.value_types.specs.Packed.{numbers_in}
use Rattle.value_types.proofs.ExtentSteps.{fold-widened}
use Rattle.column_taps.proofs.ColumnRows.{no_numbers}
use Rattle.column_taps.proofs.span.ExtentKnown.with_all.Goals as goal

pub returns-in-Bigint : goal.returns-in-Bigint
returns-in-Bigint c =
    let view = c.in-Bigint.column in
    let extent = c.args.extent in
    let rows = c.args.rows in
    c.widened.ensures ∙ ap (widened extent) c.extent.ensures ∙ fold-widened extent (take rows (bigint_cells view.nulls.now (numbers_in view.values)))
    ∙ sym (ap (λ view. fold extent_with extent (take rows (view_cells view))) c.in-Bigint.is)

pub returns-in_default : goal.returns-in_default
returns-in_default c = no_numbers c.args.extent c.args.rows c.args.column.now c.in_default.not-Bigint
