use Rattle.std.proofs.Common.{arith}
use Rattle.value_types.specs.declared.types.Value.TheVariants as values
use Rattle.value_types.specs.Datum.{typed}
use Rattle.value_types.proofs.MarkedSteps.{fold_next}
use Rattle.column_profile.specs.Tally.{span_with}
use Rattle.column_profile.proofs.span.with_truths.Goals as goal

pub loop-row-preserved : goal.loop-row-preserved
loop-row-preserved c =
    fold_next (λ b. typed (values.Bool b)) span_with c.args.span c.args.nulls.now c.args.truths.now c.loop-row.row _ c.truth_at.result
    (omega (arith, c.requires)) c.is_marked.ensures c.truth_at.ensures c.loop-row.span _ c.loop-row.invariant c.with_value-span.ensures
