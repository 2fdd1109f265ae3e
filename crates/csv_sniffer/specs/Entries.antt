-- The values of a column in the sampled rows that agree, with their lines (this loader's profile).
use Rattle.std.specs.Prelude.{ℕ, ◌+◌, List, take, filter, Option, None, slice_get}
use Rattle.std.specs.List.{last_or, filter_map}
use Rattle.std.specs.Option.{option_map, option_and_then}
use Rattle.byte_classes.specs.Dialect.{Marks}
use Rattle.byte_classes.specs.LineEnds.{line_ends}
use Rattle.row_fields.specs.Fields.{Field, fields}
use Rattle.load_options.specs.declared.options.Options.{Options}
use Rattle.dialect_rank.specs.Sampled.{Span, span_bytes}
use Rattle.csv_sniffer.specs.ColumnTypes.{agrees, value_unless_null}
use Rattle.csv_sniffer.specs.declared.explaining.entries.Entry.{Entry}

-- the physical line, from 1, of a place of the sample, before which the file has these bytes
abbrev pub line_at : List ℕ → List ℕ → ℕ → ℕ
line_at front sample place = 1 + line_ends None front + line_ends (last_or None front) (take place sample)

-- the value of a field of a row that begins in a line, where it is not null
abbrev pub entry_of : Options → ℕ → Field → Option Entry
entry_of o line f = option_map (λ value. record { line = line; quoted = f.quoted; value = value }) (value_unless_null o f)

-- the same of a column; a missing field is null
abbrev pub entry_in : Options → ℕ → List Field → ℕ → Option Entry
entry_in o line row column = option_and_then (entry_of o line) (slice_get row column)

-- the values of a column in the rows that agree
abbrev pub entries_in : Options → Marks → ℕ → List ℕ → List ℕ → ℕ → List Span → List Entry
entries_in o d columns front sample column spans =
    filter_map (λ (span : Span). entry_in o (line_at front sample span.0) (fields d (span_bytes sample span)) column)
    (filter (λ span. agrees d columns (span_bytes sample span)) spans)
