use Rattle.std.proofs.Common.{◌≡◌, ℕ, ◌-◌, ◌<◌, ◌≤◌, false, length, get_or}
use Rattle.byte_classes.specs.Class.{class_of}
use Rattle.byte_classes.specs.Special.{is_special}
use Rattle.byte_classes.proofs.special.next_far_outside.Given as goal

-- no byte so far ends a run
abbrev pub invariant-loop-at : goal.invariant-loop-at
invariant-loop-at l = record {
  low : l.fn.from ≤ l.at;
  high : l.at ≤ length l.bytes;
  before : (k : ℕ) → l.fn.from ≤ k → k < l.at → is_special false (class_of l.dialect (get_or l.bytes k 0)) ≡ false;
}

abbrev pub decreases-loop-at : goal.decreases-loop-at
decreases-loop-at l = length l.bytes - l.at
