use Rattle.column_store.specs.ColumnChanges.{IsAppended}
use Rattle.column_store.proofs.ColumnLoops.{SoFar}
use Rattle.column_store.proofs.columns.append_some.Given as goal

abbrev pub invariant-loop-place : goal.invariant-loop-place
invariant-loop-place l = SoFar (IsAppended l.others) l.place l.fn.columns l.columns
