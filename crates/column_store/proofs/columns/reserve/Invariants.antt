use Rattle.column_store.specs.ColumnChanges.{IsReserved}
use Rattle.column_store.proofs.ColumnLoops.{SoFar}
use Rattle.column_store.proofs.columns.reserve.Given as goal

abbrev pub invariant-loop-place : goal.invariant-loop-place
invariant-loop-place l = SoFar (λ _. IsReserved l.more) l.place l.fn.columns l.columns
