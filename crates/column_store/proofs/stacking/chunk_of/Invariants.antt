use Rattle.std.proofs.Common.{◌≤◌, ◌<◌, ◌-◌, length}
use Rattle.std.specs.Prelude.{slice_index}
use Rattle.column_store.specs.Ends.{begin_of}
use Rattle.column_store.proofs.stacking.chunk_of.Given as goal

abbrev pub invariant-loop-low : goal.invariant-loop-low
invariant-loop-low l =
    (l.low ≤ l.high) × (l.high ≤ length l.ends) × (begin_of l.ends l.low ≤ l.row) × (l.high < length l.ends → l.row < slice_index l.ends l.high)

abbrev pub decreases-loop-low : goal.decreases-loop-low
decreases-loop-low l = l.high - l.low
