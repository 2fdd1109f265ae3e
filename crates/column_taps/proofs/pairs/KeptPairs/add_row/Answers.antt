use Rattle.value_types.specs.Datum.{datum_of}
use Rattle.column_taps.specs.KeptPairs.{pairs_in}
use Rattle.column_taps.proofs.PairSteps.{pairs_more, pairs-kept}
use Rattle.column_taps.proofs.pairs.KeptPairs.add_row.Goals as goal

pub loop-column-preserved : goal.loop-column-preserved
loop-column-preserved c =
    let k = c.loop-column.column in
    let old = pairs_in c.args.self.now in
    let now = pairs_in c.loop-column.self in
    let cell = datum_of c.get.result in
    record {
      items = pairs_more old now _ c.args.row.now k cell c.get.ensures c.loop-column.invariant.items c.in_ok-add_cell.ensures.ok;
      kept = pairs-kept old now _ k cell c.loop-column.invariant.kept c.in_ok-add_cell.ensures.ok;
    }
