use Rattle.column_store.specs.ColumnChanges.{IsCut}
use Rattle.column_store.proofs.ColumnLoops.{SoFar}
use Rattle.column_store.proofs.columns.cut_first.Given as goal

abbrev pub invariant-loop-place : goal.invariant-loop-place
invariant-loop-place l = SoFar (λ _. IsCut l.rows) l.place l.fn.columns l.columns
