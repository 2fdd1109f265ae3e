use Rattle.std.proofs.Common.{Some, sym, ap, ◌∙◌, arith, to_z, w64}
use Rattle.std.specs.Int.{int_min, int_max}
use Rattle.std.proofs.lemmas.Option.{get_or_from_slice_get}
use Rattle.value_types.specs.declared.extent.Extent.{Extent}
use Rattle.value_types.proofs.ExtentSteps.{one_number_more}
use Rattle.value_types.proofs.ViewSteps.{number_kept}
use Rattle.value_types.proofs.measuring.with_plain.Goals as goal

pub loop-place-preserved : goal.loop-place-preserved
loop-place-preserved c =
    let k = c.loop-place.place in
    let number = c.number_at-number.result in
    let least = to_z w64 c.loop-place.least-bits in
    let greatest = to_z w64 c.loop-place.greatest-bits in
    let so_far : Extent = record { least = least; greatest = greatest } in
    let kept = number_kept number c.number_at-number.type_inv in
    one_number_more c.args.numbers.now k number (Some c.args.extent) so_far _ (omega arith) (sym (get_or_from_slice_get c.args.numbers.now k number number c.number_at-number.ensures)) c.loop-place.invariant
    (λ i. record {
      least = (number_kept c.min-least.result c.min-least.type_inv ∙ c.min-least.ensures.value ∙ ap (int_min least) kept) i;
      greatest = (number_kept c.max-greatest.result c.max-greatest.type_inv ∙ c.max-greatest.ensures.value ∙ ap (int_max greatest) kept) i;
    })
