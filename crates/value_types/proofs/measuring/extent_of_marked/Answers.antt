use Rattle.std.proofs.Common.{ℤ, ap, ◌∙◌, arith, None}
use Rattle.std.specs.Prelude.{if◌then◌else◌}
use Rattle.value_types.specs.declared.types.Value.TheVariants as values
use Rattle.value_types.specs.Datum.{null, typed}
use Rattle.value_types.specs.Extent.{extent_with}
use Rattle.value_types.specs.Packed.{numbers_in}
use Rattle.value_types.proofs.MarkedSteps.{fold_next}
use Rattle.value_types.proofs.ViewSteps.{number_kept}
use Rattle.value_types.proofs.measuring.extent_of_marked.Goals as goal

pub loop-row-preserved : goal.loop-row-preserved
loop-row-preserved c =
    let extent = c.loop-row.extent in
    let is_null = c.is_marked.result in
    fold_next (λ n. typed (values.Int n)) extent_with None c.args.nulls.now (numbers_in c.args.numbers) c.loop-row.row is_null c.get.result
    (omega (arith, c.requires)) c.is_marked.ensures c.get.ensures extent _ c.loop-row.invariant
    (c.with_number-extent.ensures ∙ ap (λ (n : ℤ). extent_with extent (if is_null then null else typed (values.Int n))) (number_kept c.get.result c.get.type_inv))
