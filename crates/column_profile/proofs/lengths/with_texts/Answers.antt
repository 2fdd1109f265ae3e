use Rattle.std.proofs.Common.{arith}
use Rattle.value_types.specs.Datum.{text}
use Rattle.value_types.proofs.MarkedSteps.{fold_next}
use Rattle.column_profile.specs.Tally.{lengths_with}
use Rattle.column_profile.proofs.lengths.with_texts.Goals as goal

pub loop-row-preserved : goal.loop-row-preserved
loop-row-preserved c =
    fold_next text lengths_with c.args.lengths c.args.nulls.now c.args.texts.now c.loop-row.row _ _ (omega (arith, c.requires)) c.is_marked.ensures c.get.ensures
    c.loop-row.lengths _ c.loop-row.invariant c.with_text-lengths.ensures
