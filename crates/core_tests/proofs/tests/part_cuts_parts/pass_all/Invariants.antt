use Rattle.std.proofs.Common.{◌-◌, ◌+◌, ◌≤◌, length}
use Rattle.core_tests.proofs.tests.part_cuts_parts.pass_all.Given as goal

-- what is left fits
abbrev pub invariant-loop-at : goal.invariant-loop-at
invariant-loop-at l = record { high : l.at ≤ length l.bytes; fits : l.cuts.tally.bytes + (length l.bytes - l.at) ≤ 200 }

abbrev pub decreases-loop-at : goal.decreases-loop-at
decreases-loop-at l = length l.bytes - l.at
