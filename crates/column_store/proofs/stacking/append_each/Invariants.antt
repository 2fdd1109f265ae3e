use Rattle.std.proofs.Common.{take}
use Rattle.column_store.specs.Stacked.{HasAppended, rows_in}
use Rattle.column_store.proofs.stacking.append_each.Given as goal

abbrev pub invariant-loop-chunk : goal.invariant-loop-chunk
invariant-loop-chunk l = HasAppended l.fn.into l.into (rows_in (take l.chunk-index l.earlier))
