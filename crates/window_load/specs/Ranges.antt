-- The ranges of data in a window, read one after another.
use Rattle.std.specs.Prelude.{ℕ, ◌+◌, min, Bool, List, length, slice_range, is_some}
use Rattle.byte_classes.specs.Dialect.{Marks}
use Rattle.quote_automaton.specs.declared.state.State.{State}
use Rattle.quote_automaton.specs.Automaton.{state_after}
use Rattle.quote_automaton.specs.Rows.{first_row_start}
use Rattle.range_guess.specs.declared.span.Span.{Span}

-- whether a row begins behind a range that is read from a state: then each row of the range ends in these bytes, whatever comes later
abbrev pub begins_behind : Marks → List ℕ → Span → State → Bool
begins_behind d bytes span s = is_some (first_row_start d (state_after d s (slice_range bytes span.from span.to)) bytes span.to (length bytes))

-- the range with this number, which begins at a place of a window of so many bytes, as far as the window goes
abbrev pub span_in : ℕ → ℕ → ℕ → ℕ → Span
span_in at window_length range_size k = record { number = k; from = at; to = min (at + range_size) window_length }

-- how many bytes a window holds from a range's beginning on, unless the data end: the range, and one byte more than a line of so many
abbrev pub range_reach : ℕ → ℕ → ℕ
range_reach range_size line_size = range_size + (line_size + 1)
