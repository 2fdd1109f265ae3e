use Rattle.std.proofs.Common.{arith}
use Rattle.column_taps.specs.KeptPairs.{pairs_in}
use Rattle.column_taps.proofs.PairSteps.{pairs-kept}
use Rattle.column_taps.proofs.TextSteps.{texts_with_one}
use Rattle.column_taps.proofs.pairs.KeptPairs.add_texts.Goals as goal

pub loop-column-preserved : goal.loop-column-preserved
loop-column-preserved c =
    let column = c.column-item.result in
    let old = pairs_in c.args.self.now in
    let now = pairs_in c.loop-column.self in
    record {
      items = texts_with_one c.args.row old now _ c.args.columns.now c.loop-column.column-index column (omega arith) c.column-item.is c.loop-column.invariant.items c.in_ok-add_text.ensures.ok;
      kept = pairs-kept old now _ column.place _ c.loop-column.invariant.kept c.in_ok-add_text.ensures.ok;
    }
