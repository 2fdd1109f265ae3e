use Rattle.std.proofs.Common.{◌≡◌, ◌-◌, ◌≤◌, length}
use Rattle.dialect_rank.specs.Walk.{filled_from}
use Rattle.dialect_rank.proofs.row_count.found_row.next_filled.Given as goal

abbrev pub invariant-loop-at : goal.invariant-loop-at
invariant-loop-at l = (filled_from l.dialect l.sample l.from ≡ filled_from l.dialect l.sample l.at) × (l.from ≤ l.at)

abbrev pub decreases-loop-at : goal.decreases-loop-at
decreases-loop-at l = length l.sample - l.at
