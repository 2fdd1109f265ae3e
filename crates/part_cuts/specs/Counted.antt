-- Rows that are counted up to a place.
use Rattle.std.specs.Prelude.{◌≡◌, ℕ, ◌+◌, ◌≤◌, List, drop, length}
use Rattle.quote_automaton.specs.Automaton.{state_after}
use Rattle.part_cuts.specs.declared.cut_rule.CutRule.{CutRule}
use Rattle.part_cuts.specs.declared.row_count.Counted.{Counted}
use Rattle.part_cuts.specs.Passed.{rows_begun}

-- the counting goes on to a place: the state after what is left, and all rows, stay the same, and each row has a byte of its own
pub record GoesOn (rule : CutRule) (bytes : List ℕ) (old new : Counted) : Type 0 where
  pub low : old.at ≤ new.at
  pub high : new.at ≤ length bytes
  pub few : new.rows + old.at ≤ old.rows + new.at
  pub after : state_after rule.dialect new.state (drop new.at bytes) ≡ state_after rule.dialect old.state (drop old.at bytes)
  pub rows : new.rows + rows_begun rule.dialect rule.columns new.state (drop new.at bytes) ≡ old.rows + rows_begun rule.dialect rule.columns old.state (drop old.at bytes)
