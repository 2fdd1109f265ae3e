use Rattle.column_store.specs.ColumnChanges.{HasCells}
use Rattle.column_store.proofs.ColumnLoops.{SoFar}
use Rattle.column_store.proofs.columns.pack.Given as goal

abbrev pub invariant-loop-place : goal.invariant-loop-place
invariant-loop-place l = SoFar (λ _. HasCells) l.place l.fn.columns l.columns
