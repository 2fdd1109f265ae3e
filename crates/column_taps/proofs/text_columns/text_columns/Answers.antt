use Rattle.std.proofs.Common.{arith}
use Rattle.column_taps.proofs.TextSteps.{texts_more}
use Rattle.column_taps.proofs.text_columns.text_columns.Goals as goal

pub loop-place-preserved : goal.loop-place-preserved
loop-place-preserved c =
    texts_more c.args.columns.now c.loop-place.place c.index-columns-place.result c.loop-place.found.items _ (omega arith) c.index-columns-place.is c.loop-place.invariant c.in_ok-push_texts.ensures
