-- The rows of a table on their way into pages.
use Rattle.std.specs.Prelude.{ℕ, ◌+◌, List, [], ◌∷◌, ◌++◌, length, flat_map, map}
use Rattle.sqlite_value.specs.declared.value.Value.{Value}
use Rattle.sqlite_value.specs.Order.{Row}
use Rattle.value_types.specs.Datum.{Datum}
use Rattle.db_records.specs.Record.{type_bytes, value_bytes, record_bytes, record_of}
use Rattle.db_pages.specs.Grown.{Filled, filled}
use Rattle.db_pages.specs.Laid.{with_rows}
use Rattle.db_writer.specs.Stored.{stored_row}

-- the values of a row: their types, and their bytes
pub record Values : Type 0 where
  pub types : List ℕ
  pub body : List ℕ

abbrev pub no_values : Values
no_values = record { types = []; body = [] }

-- the rows that are laid out, the rowid of the next one, and its values so far
pub record Written : Type 0 where
  pub rows : Filled
  pub next : ℕ
  pub values : Values

-- no rows, behind `base` pages, the first under a rowid
abbrev pub nothing_written : ℕ → ℕ → Written
nothing_written base first = record { rows = filled base first []; next = first; values = no_values }

-- with one value more of the row under way
abbrev pub with_value : Written → Value → Written
with_value w value = record
    { rows = w.rows; next = w.next; values = record { types = w.values.types ++ type_bytes value; body = w.values.body ++ value_bytes value } }

-- with some values more
abbrev pub with_values : Written → Row → Written
with_values w row = record
    { rows = w.rows; next = w.next; values = record { types = w.values.types ++ flat_map type_bytes row; body = w.values.body ++ flat_map value_bytes row } }

-- with the row under way laid out, and its values still at hand
abbrev pub with_laid_row : Written → Written
with_laid_row w = record w { rows = record w.rows { laid = with_rows w.rows.base w.rows.laid w.next (record_of w.values.types w.values.body ∷ []) } }

-- with rows more, by their records
abbrev pub with_records : Written → List (List ℕ) → Written
with_records w records = record
    { rows = record { base = w.rows.base; laid = with_rows w.rows.base w.rows.laid w.next records }; next = w.next + length records; values = no_values }

-- the records of rows of cells
abbrev pub records_of : List (List Datum) → List (List ℕ)
records_of rows = map record_bytes (map stored_row rows)
