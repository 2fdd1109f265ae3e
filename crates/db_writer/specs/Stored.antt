-- Cells as values of a database (SQLite, "Datatypes In SQLite", sections 2.1 and 2.2: truths are integers, dates and times texts).
use Rattle.std.specs.Prelude.{ℕ, pos, List, map, if◌then◌else◌}
use Rattle.std.specs.Str.{is_utf8}
use Rattle.sqlite_value.specs.declared.value.Value.{Value as Stored}
use Rattle.sqlite_value.specs.declared.value.Value.TheVariants as stored
use Rattle.sqlite_value.specs.Order.{Row}
use Rattle.value_types.specs.declared.types.Value.{Value}
use Rattle.value_types.specs.declared.types.Value.TheVariants as values
use Rattle.value_types.specs.Datum.{Datum, null, typed, text}
use Rattle.value_types.specs.ValueText.{value_text}

-- a truth as 0 or 1, a number as itself, a date or a time as its text
abbrev pub stored_value : Value → Stored
stored_value (values.Bool b) = stored.Int (if b then pos 1 else pos 0)
stored_value (values.Int n) = stored.Int n
stored_value (values.Date day) = stored.Text (value_text (values.Date day))
stored_value (values.Time micros) = stored.Text (value_text (values.Time micros))
stored_value (values.Stamp stamp) = stored.Text (value_text (values.Stamp stamp))

abbrev pub stored_cell : Datum → Stored
stored_cell null = stored.Null
stored_cell (typed value) = stored_value value
stored_cell (text bytes) = stored.Text bytes

abbrev pub stored_row : List Datum → Row
stored_row cells = map stored_cell cells

-- a text that need not be UTF-8: as it is, in a blob where it isn't
abbrev pub text_or_blob : List ℕ → Stored
text_or_blob bytes = if is_utf8 bytes then stored.Text bytes else stored.Blob bytes
