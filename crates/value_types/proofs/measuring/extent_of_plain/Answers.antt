use Rattle.std.proofs.Common.{◌∙◌, map, Some}
use Rattle.std.specs.List.{fold}
use Rattle.value_types.specs.declared.types.Value.TheVariants as values
use Rattle.value_types.specs.Datum.{typed}
use Rattle.value_types.specs.Extent.{extent_with}
use Rattle.value_types.proofs.ExtentSteps.{first_number}
use Rattle.value_types.proofs.ViewSteps.{number_kept}
use Rattle.value_types.proofs.measuring.extent_of_plain.Goals as goal

pub returns : goal.returns
returns c =
    let first = c.number_at-first.result in
    c.with_plain.ensures
    ∙ (λ i. fold extent_with (Some (record { least = number_kept first c.number_at-first.type_inv i; greatest = number_kept first c.number_at-first.type_inv i }))
    (map (λ n. typed (values.Int n)) (c.behind_first.ensures i)))
    ∙ first_number c.args.numbers.now first c.number_at-first.ensures
