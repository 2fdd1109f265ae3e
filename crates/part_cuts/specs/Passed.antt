-- The reading over bytes among which no part begins.
use Rattle.std.specs.Prelude.{ℕ, ◌+◌, List, [], ◌∷◌, length, if◌then◌else◌}
use Rattle.std.specs.List.{last_or}
use Rattle.byte_classes.specs.Class.{class_of}
use Rattle.byte_classes.specs.Dialect.{Marks}
use Rattle.byte_classes.specs.LineEnds.{line_ends}
use Rattle.quote_automaton.specs.declared.state.State.{State}
use Rattle.quote_automaton.specs.Automaton.{step, state_after}
use Rattle.part_cuts.specs.Cut.{counts_row}
use Rattle.part_cuts.specs.Reading.{Reading}

-- how many rows that count begin among bytes that are read from this state
abbrev pub rows_begun : Marks → ℕ → State → List ℕ → ℕ
rows_begun d columns s [] = 0
rows_begun d columns s (b ∷ bytes) = (if counts_row columns s (class_of d b) then 1 else 0) + rows_begun d columns (step d s b) bytes

-- what is known behind these bytes, by the state behind them and by what they count
abbrev pub passed : Reading → List ℕ → Reading
passed r bytes = record r {
  state = state_after r.rule.dialect r.state bytes;
  before = last_or r.before bytes;
  tally = record {
    bytes = r.tally.bytes + length bytes;
    lines = r.tally.lines + line_ends r.before bytes;
    rows = r.tally.rows + rows_begun r.rule.dialect r.rule.columns r.state bytes;
  };
}
