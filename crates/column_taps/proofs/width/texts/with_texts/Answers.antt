use Rattle.std.proofs.Common.{arith}
use Rattle.value_types.specs.Datum.{text}
use Rattle.column_taps.specs.Seen.{width_with}
use Rattle.value_types.proofs.MarkedSteps.{fold_next}
use Rattle.column_taps.proofs.width.texts.with_texts.Goals as goal

pub loop-row-preserved : goal.loop-row-preserved
loop-row-preserved c =
    fold_next text width_with c.args.width c.args.nulls.now c.args.texts.now c.loop-row.row _ _ (omega (arith, c.requires)) c.is_marked.ensures c.get.ensures
    c.loop-row.width _ c.loop-row.invariant c.with_text-width.ensures
