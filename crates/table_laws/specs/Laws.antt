-- The laws of a written table, which is a text of RFC 4180's grammar and reads back as the same names and the same table.
use Rattle.std.specs.Prelude.{◌≡◌, ℕ, ◌+◌, true, false, List, length, map, None, ◌≤◌, ◌&&◌, not, Bool, [], ◌∷◌, Some, All}
use Rattle.std.specs.Str.{is_utf8}
use Rattle.byte_classes.specs.Dialect.{Marks}
use Rattle.row_fields.specs.Written.{WrittenField, WrittenText, lf, text_of, IsWritten}
use Rattle.value_types.specs.Datum.{Datum, null, typed, text}
use Rattle.value_types.specs.declared.types.ColumnType.{ColumnType}
use Rattle.value_types.specs.OfType.{fit_all}
use Rattle.value_types.specs.ValueText.{value_text}
use Rattle.load_options.specs.declared.options.Options.{Options}
use Rattle.load_options.specs.declared.options.Choice.TheVariants.{Byte}
use Rattle.csv_source.specs.Lists.{is_empty}
use Rattle.load_options.specs.Texts.{all_different}
use Rattle.csv_sniffer.specs.Input.{found}
use Rattle.csv_sniffer.specs.Sample.{sample_limit}
use Rattle.csv_writer.specs.Quoting.{needs_quotes}
use Rattle.csv_writer.specs.Writable.{IsReadableCell}
use Rattle.csv_writer.specs.WrittenTable.{names_line, row_line, written_table}
use Rattle.loader_reply.specs.Reading.{reading, table_rows, faults}

-- ---- a written table as a text of the grammar

-- a comma, a quote that is doubled between quotes, and no comment byte
abbrev pub csv_marks : Marks
csv_marks = record { delim = 44; quote = Some 34; escape = Some 34; comment = None }

-- a name or a text, and a cell, as they are written
abbrev pub text_to_write : List ℕ → WrittenField
text_to_write bytes = record { quoted = needs_quotes bytes; value = bytes }

abbrev pub cell_to_write : Datum → WrittenField
cell_to_write null = record { quoted = false; value = [] }
cell_to_write (typed value) = record { quoted = false; value = value_text value }
cell_to_write (text bytes) = text_to_write bytes

abbrev pub table_to_write : List (List ℕ) → List (List Datum) → WrittenText
table_to_write names rows = record { line_end = lf; ended = map text_to_write names ∷ map (map cell_to_write) rows; last = None }

-- as many names and cells in each row as columns, and at least one column
pub record HasColumns (ns : List (List ℕ)) (tys : List ColumnType) (rs : List (List Datum)) : Type 0 where
  pub some : 1 ≤ length tys
  pub names : length ns ≡ length tys
  pub rows : All (λ cells. fit_all tys cells ≡ true) rs

-- a written table is a text of the grammar
abbrev pub WrittenTableIsWritten : Type 0
WrittenTableIsWritten = (names : List (List ℕ)) (types : List ColumnType) (rows : List (List Datum)) → HasColumns names types rows →
    IsWritten csv_marks (table_to_write names rows) × (text_of csv_marks (table_to_write names rows) ≡ written_table names rows)

-- ---- a written table read back

-- the options that say how the text is written; all others are free
pub record ReadsWritten (o : Options) (tys : List ColumnType) : Type 0 where
  pub delim : o.delim ≡ Some 44
  pub quote : o.quote ≡ Byte 34
  pub escape : o.escape ≡ Byte 34
  pub comment : o.comment ≡ None
  pub header : o.header ≡ Some true
  pub skip : o.skip ≡ 0
  pub nullstr : o.nullstr ≡ []
  pub nulls : o.nulls ≡ []
  pub quoted_texts : o.allow_quoted_nulls ≡ false
  pub typed : o.all_varchar ≡ false
  pub names : o.names ≡ []
  pub types : o.types ≡ tys
  pub column_types : is_empty o.column_types.names ≡ true
  pub sampled : 1 ≤ o.sample_size

-- a name that a header can give: UTF-8, and not empty
abbrev pub is_header_name : List ℕ → Bool
is_header_name name = is_utf8 name && not (is_empty name)

-- a table that can be read back
pub record IsReadable (ns : List (List ℕ)) (tys : List ColumnType) (rs : List (List Datum)) : Type 0 where
  pub columns : HasColumns ns tys rs
  pub headed : All (λ name. is_header_name name ≡ true) ns
  pub different : all_different ns ≡ true
  pub cells : All (λ cells. All IsReadableCell cells) rs

-- the line of names lies in a sample, and no row has more bytes than a row may have; each line ends with one more
pub record FitsLimits (o : Options) (ns : List (List ℕ)) (rs : List (List Datum)) : Type 0 where
  pub names : length (names_line ns) ≤ sample_limit
  pub rows : All (λ cells. length (row_line cells) ≤ o.max_line_size + 1) rs

-- what is found and read of a text are these names and types, and these rows without a fault
pub record ReadsAs (o : Options) (written : List ℕ) (ns : List (List ℕ)) (tys : List ColumnType) (rs : List (List Datum)) : Type 0 where
  pub names : (found o written).names ≡ ns
  pub types : (found o written).types ≡ tys
  pub rows : table_rows (reading o written) ≡ rs
  pub faults : faults (reading o written) ≡ []

-- a written table reads back as the same names and the same table, and without a fault
abbrev pub WrittenTableReadsBack : Type 0
WrittenTableReadsBack = (o : Options) (names : List (List ℕ)) (types : List ColumnType) (rows : List (List Datum)) →
    ReadsWritten o types → IsReadable names types rows → FitsLimits o names rows → ReadsAs o (written_table names rows) names types rows
