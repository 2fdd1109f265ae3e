-- A cell of a text to which bytes are appended.
use Rattle.std.specs.Prelude.{ℕ, List, ◌++◌}
use Rattle.value_types.specs.Datum.{Datum, null, typed, text}

-- any other cell stays as it is
abbrev pub longer : List ℕ → Datum → Datum
longer more null = null
longer more (typed value) = typed value
longer more (text bytes) = text (bytes ++ more)
