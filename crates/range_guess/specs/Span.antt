-- A range inside a window, and the state in which it is read first.
use Rattle.std.specs.Prelude.{ℕ, ◌%◌, ◌≤◌, ◌==◌, if◌then◌else◌, List, length, slice_range}
use Rattle.byte_classes.specs.Dialect.{Marks}
use Rattle.byte_classes.specs.Places.{byte_before}
use Rattle.quote_automaton.specs.declared.state.State.{State}
use Rattle.range_guess.specs.declared.span.Span.{Span}
use Rattle.range_guess.specs.Cut.{group_len}
use Rattle.range_guess.specs.Guess.{guess}

-- a span that lies in a window
pub record IsSpanOf (span : Span) (bytes : List ℕ) : Type 0 where
  pub ordered : span.from ≤ span.to
  pub within : span.to ≤ length bytes

-- the guess of a range, by its own bytes and the byte before it
abbrev pub guess_of : Marks → List ℕ → Span → State
guess_of d bytes span = guess d (slice_range bytes span.from span.to) (byte_before bytes span.from)

-- the state in which it is read first: the first range of a group opens where the one before it ends, any other in its guess
abbrev pub opening_in : Marks → List ℕ → Span → State → State
opening_in d bytes span end = if span.number % group_len == 0 then end else guess_of d bytes span
