use Rattle.std.proofs.Common.{◌-◌}
use Rattle.part_cuts.specs.Counted.{GoesOn}
use Rattle.part_cuts.proofs.row_count.walk.Given as goal

-- so far it goes on
abbrev pub invariant-loop-counted : goal.invariant-loop-counted
invariant-loop-counted l = GoesOn l.fn.rule l.fn.bytes l.fn.from l.counted

abbrev pub decreases-loop-counted : goal.decreases-loop-counted
decreases-loop-counted l = l.until - l.counted.at
