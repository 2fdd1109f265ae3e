use Rattle.std.proofs.Common.{ℤ, ap, ◌∙◌, arith}
use Rattle.std.specs.Prelude.{if◌then◌else◌}
use Rattle.value_types.specs.declared.types.Value.TheVariants as values
use Rattle.value_types.specs.Datum.{null, typed}
use Rattle.value_types.proofs.MarkedSteps.{fold_next}
use Rattle.value_types.proofs.ViewSteps.{day_kept}
use Rattle.column_profile.specs.Tally.{span_with}
use Rattle.column_profile.proofs.span.with_days.Goals as goal

pub loop-row-preserved : goal.loop-row-preserved
loop-row-preserved c =
    let span = c.loop-row.span in
    let is_null = c.is_marked.result in
    fold_next (λ n. typed (values.Date n)) span_with c.args.span c.args.nulls.now c.args.days.now c.loop-row.row is_null c.day_at.result
    (omega (arith, c.requires)) c.is_marked.ensures c.day_at.ensures span _ c.loop-row.invariant
    (c.with_value-span.ensures ∙ ap (λ (n : ℤ). span_with span (if is_null then null else typed (values.Date n))) (day_kept c.day_at.result c.day_at.type_inv))
