use Rattle.std.proofs.Common.{◌≡◌, map, take, Some}
use Rattle.std.specs.List.{fold}
use Rattle.value_types.specs.declared.types.Value.TheVariants as values
use Rattle.value_types.specs.Datum.{typed}
use Rattle.value_types.specs.Extent.{extent_with}
use Rattle.value_types.proofs.measuring.with_plain.Given as goal

-- the numbers so far are taken in
abbrev pub invariant-loop-place : goal.invariant-loop-place
invariant-loop-place l =
    Some (record { least = l.least; greatest = l.greatest }) ≡ fold extent_with (Some l.fn.extent) (map (λ n. typed (values.Int n)) (take l.place l.numbers))
