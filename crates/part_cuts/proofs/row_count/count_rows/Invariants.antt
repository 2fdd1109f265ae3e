use Rattle.std.proofs.Common.{◌-◌, length}
use Rattle.part_cuts.specs.Counted.{GoesOn}
use Rattle.part_cuts.proofs.row_count.count_rows.Given as goal

-- all from the first byte on is counted
abbrev pub invariant-loop-counted : goal.invariant-loop-counted
invariant-loop-counted l = GoesOn l.fn.rule l.fn.bytes (record { at = 0; state = l.fn.state; rows = 0 }) l.counted

abbrev pub decreases-loop-counted : goal.decreases-loop-counted
decreases-loop-counted l = length l.bytes - l.counted.at
