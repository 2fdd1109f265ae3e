use Rattle.std.proofs.Common.{◌≤◌, ◌-◌}
use Rattle.text_pieces.proofs.spare.Spare.make.Given as goal

abbrev pub invariant-loop-count : goal.invariant-loop-count
invariant-loop-count g l = l.count ≤ l.to - l.from

abbrev pub decreases-loop-count : goal.decreases-loop-count
decreases-loop-count g l = l.count
