use Rattle.std.proofs.Common.{◌-◌, ◌≡◌, ◌+◌, ◌≤◌, take, drop}
use Rattle.part_cuts.specs.Reading.{reading}
use Rattle.part_cuts.specs.Within.{most_bytes}
use Rattle.part_cuts.proofs.cuts.Cuts.pass.Given as goal

-- so many bytes are read
abbrev pub invariant-loop-at : goal.invariant-loop-at
invariant-loop-at l = record {
  high : l.at ≤ l.count;
  read : l.self ≡ reading l.fn.self (take l.at l.bytes) (drop l.at l.bytes);
  fits : l.self.tally.bytes + (l.count - l.at) ≤ most_bytes;
}

abbrev pub decreases-loop-at : goal.decreases-loop-at
decreases-loop-at l = l.count - l.at
