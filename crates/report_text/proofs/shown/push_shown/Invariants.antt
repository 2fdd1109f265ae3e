use Rattle.std.proofs.Common.{◌≡◌, ◌++◌, ◌-◌, ◌≤◌, length, drop}
use Rattle.csv_source.specs.Shown.{shown}
use Rattle.report_text.proofs.shown.push_shown.Given as goal

-- with the rest the text is that of all bytes
abbrev pub invariant-loop-at : goal.invariant-loop-at
invariant-loop-at l = record {
  within : l.at ≤ length l.bytes;
  text : l.into.text ++ shown (drop l.at l.bytes) ≡ l.fn.into.text ++ shown l.bytes;
}

abbrev pub decreases-loop-at : goal.decreases-loop-at
decreases-loop-at l = length l.bytes - l.at
