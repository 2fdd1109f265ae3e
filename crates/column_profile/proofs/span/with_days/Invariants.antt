use Rattle.std.proofs.Common.{◌≡◌, take}
use Rattle.std.specs.List.{fold}
use Rattle.value_types.specs.declared.types.Value.TheVariants as values
use Rattle.value_types.specs.Datum.{typed}
use Rattle.value_types.specs.Marked.{marked}
use Rattle.column_profile.specs.Tally.{span_with}
use Rattle.column_profile.proofs.span.with_days.Given as goal

-- the values so far are taken in
abbrev pub invariant-loop-row : goal.invariant-loop-row
invariant-loop-row l = l.span ≡ fold span_with l.fn.span (take l.row (marked (λ n. typed (values.Date n)) l.nulls l.days))
