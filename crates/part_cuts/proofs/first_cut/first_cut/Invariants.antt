use Rattle.std.proofs.Common.{◌-◌, ◌≡◌, ◌≤◌, take, drop}
use Rattle.quote_automaton.specs.Automaton.{state_after}
use Rattle.part_cuts.specs.NoCut.{NoCut}
use Rattle.part_cuts.proofs.first_cut.first_cut.Given as goal

-- no cut so far
abbrev pub invariant-loop-at : goal.invariant-loop-at
invariant-loop-at l = record {
  high : l.at ≤ l.count;
  none : NoCut l.dialect l.fn.state (take l.at l.bytes) (drop l.at l.bytes);
  state : l.state ≡ state_after l.dialect l.fn.state (take l.at l.bytes);
}

abbrev pub decreases-loop-at : goal.decreases-loop-at
decreases-loop-at l = l.count - l.at
