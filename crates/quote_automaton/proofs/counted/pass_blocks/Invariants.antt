use Rattle.std.proofs.Common.{◌≡◌, ◌-◌, ◌≤◌, drop, length}
use Rattle.quote_automaton.specs.Automaton.{state_after}
use Rattle.quote_automaton.specs.Counted.{state_of}
use Rattle.quote_automaton.proofs.counted.pass_blocks.Given as goal

-- the state after what is left is that after all bytes
abbrev pub invariant-loop-at : goal.invariant-loop-at
invariant-loop-at l = record {
  low : l.fn.from ≤ l.at;
  high : l.at ≤ length l.bytes;
  after : state_after l.dialect (state_of l.dialect l.place) (drop l.at l.bytes) ≡ state_after l.fn.dialect l.fn.state (drop l.fn.from l.fn.bytes);
}

abbrev pub decreases-loop-at : goal.decreases-loop-at
decreases-loop-at l = length l.bytes - l.at
