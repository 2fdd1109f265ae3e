-- What the sample shows of the columns (this loader's profile).
use Rattle.std.specs.Prelude.{◌≡◌, ℕ, ◌<◌, ◌&&◌, ◌++◌, not, Bool, List, [], length, map, slice_index_or}
use Rattle.std.specs.List.{range_with_len}
use Rattle.byte_classes.specs.Dialect.{Marks}
use Rattle.value_types.specs.declared.types.ColumnType.TheVariants.{Varchar}
use Rattle.load_options.specs.declared.options.Options.{Options}
use Rattle.csv_source.specs.Lists.{is_empty}
use Rattle.load_options.specs.Texts.{is_among}
use Rattle.dialect_rank.specs.Sampled.{Span}
use Rattle.csv_sniffer.specs.Entries.{entries_in}
use Rattle.csv_sniffer.specs.declared.explaining.entries.ColumnSample.{ColumnSample}
use Rattle.csv_sniffer.specs.declared.explaining.entries.Entry.{Entry}
use Rattle.csv_sniffer.specs.declared.found.Sniffed.{Sniffed}

-- whether the type of the column of a name is found, and not given
abbrev pub is_type_found : Options → List ℕ → Bool
is_type_found o name = not o.all_varchar && is_empty o.types && not (is_among o.column_types.names name)

-- a column of what was found, with these values
abbrev pub column_sample : Options → Sniffed → ℕ → List Entry → ColumnSample
column_sample o s column entries = record {
  number = column;
  name = slice_index_or s.names column [];
  ty = slice_index_or s.types column Varchar;
  found = is_type_found o (slice_index_or s.names column []);
  entries = entries;
}

-- all columns without a value
abbrev pub no_samples : Options → Sniffed → List ColumnSample
no_samples o s = map (λ column. column_sample o s column []) (range_with_len 0 (length s.types))

-- all columns with their values in the rows that agree
abbrev pub column_samples : Options → Sniffed → List ℕ → List ℕ → List Span → List ColumnSample
column_samples o s front sample spans =
    map (λ column. column_sample o s column (entries_in o s.dialect (length s.types) front sample column spans)) (range_with_len 0 (length s.types))

-- a column with further values
abbrev pub with_entries : ColumnSample → List Entry → ColumnSample
with_entries c entries = record c { entries = c.entries ++ entries }

-- each column has its values of some rows, but for those of the rows that are left
pub record HasValues (o : Options) (d : Marks) (front sample : List ℕ) (start : List ColumnSample) (spans left : List Span) (samples : List ColumnSample) : Type 0 where
  pub count : length samples ≡ length start
  pub each : (k : ℕ) (other : ColumnSample) → k < length start →
      with_entries (slice_index_or samples k other) (entries_in o d (length start) front sample k left)
      ≡ with_entries (slice_index_or start k other) (entries_in o d (length start) front sample k spans)
