-- Rows whose fields are counted as they are found.
use Rattle.std.specs.Prelude.{◌≡◌, ℕ, ◌<◌, ◌≤◌, Bool, true, false, List, length, slice_index, slice_range}
use Rattle.byte_classes.specs.Class.{class_of}
use Rattle.byte_classes.specs.Dialect.{Marks}
use Rattle.byte_classes.specs.Special.{is_special}
use Rattle.quote_automaton.specs.RowEnd.{row_len}
use Rattle.row_fields.specs.Fields.{is_quoted}
use Rattle.row_fields.specs.Reading.{EndsWell}
use Rattle.row_fields.specs.Split.{row_from}
use Rattle.dialect_rank.specs.declared.row_count.fields.FieldStop.{FieldStop}
use Rattle.dialect_rank.specs.declared.row_count.RowCount.{RowCount}
use Rattle.dialect_rank.specs.Score.{closed_fields, field_count, is_sound}

-- the field between two places has no flaw, and is quoted or not
abbrev pub IsSoundField : Marks → List ℕ → ℕ → ℕ → Bool → Type 0
IsSoundField d bytes from end quoted = EndsWell d bytes from end × (is_quoted d (slice_range bytes from end) ≡ quoted)

-- the field that begins at a place ends so, if a byte stands there that ends fields
pub record IsStop (d : Marks) (bytes : List ℕ) (from : ℕ) (stop : FieldStop) : Type 0 where
  pub low : from ≤ stop.end
  pub high : stop.end < length bytes
  pub ends : is_special false (class_of d (slice_index bytes stop.end)) ≡ true → IsSoundField d bytes from stop.end stop.quoted

-- the row at the front of the bytes has no flaw, and these counts
pub record HasCount (d : Marks) (bytes : List ℕ) (row : RowCount) : Type 0 where
  pub len : row.end ≡ row_len d bytes 0
  pub within : row.end ≤ length bytes
  pub sound : is_sound d (row_from d bytes 0) ≡ true
  pub fields : row.fields ≡ field_count d (row_from d bytes 0)
  pub closed : row.quoted ≡ closed_fields d (row_from d bytes 0)
