use Rattle.std.proofs.Common.{◌-◌, length}
use Rattle.quote_automaton.specs.Counted.{state_of}
use Rattle.part_cuts.specs.Counted.{GoesOn}
use Rattle.part_cuts.proofs.row_count.pass_blocks.Given as goal

-- so far it goes on
abbrev pub invariant-loop-at : goal.invariant-loop-at
invariant-loop-at l = GoesOn l.fn.rule l.fn.bytes l.fn.from (record { at = l.at; state = state_of l.fn.rule.dialect l.place; rows = l.rows })

abbrev pub decreases-loop-at : goal.decreases-loop-at
decreases-loop-at l = length l.bytes - l.at
