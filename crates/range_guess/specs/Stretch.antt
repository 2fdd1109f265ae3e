-- Ranges of a window that follow one another.
use Rattle.std.specs.Prelude.{ℕ, ◌+◌, ◌-◌, ◌<◌, ◌≤◌, List, length}
use Rattle.range_guess.specs.declared.span.Span.{Span}
use Rattle.range_guess.specs.declared.stretch.Stretch.{Stretch}
use Rattle.range_guess.specs.Cut.{range_count, range_bounds}

-- how many ranges a stretch has, and where range i of it begins and ends in the window
abbrev pub stretch_count : Stretch → ℕ
stretch_count s = range_count (s.to - s.from) s.range_size

abbrev pub range_from : Stretch → ℕ → ℕ
range_from s i = s.from + (range_bounds (s.to - s.from) s.range_size i).0

abbrev pub range_to : Stretch → ℕ → ℕ
range_to s i = s.from + (range_bounds (s.to - s.from) s.range_size i).1

-- range i of it
abbrev pub span_of : Stretch → ℕ → Span
span_of s i = record { number = s.first_range + i; from = range_from s i; to = range_to s i }

-- a stretch that lies in a window
pub record LiesIn (s : Stretch) (window : List ℕ) : Type 0 where
  pub some : 0 < s.range_size
  pub ordered : s.from ≤ s.to
  pub within : s.to ≤ length window
