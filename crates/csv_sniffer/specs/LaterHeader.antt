-- Whether a text begins with the header that was found in another one (this loader's profile).
use Rattle.std.specs.Prelude.{ℕ, ◌&&◌, ◌||◌, not, nat_le, Bool, false, List, length, Some}
use Rattle.std.specs.Cmp.Lexicographic.{pointwise}
use Rattle.std.specs.List.{slice_get}
use Rattle.std.specs.Option.{option_map_or}
use Rattle.std.specs.Str.{bytes_eq}
use Rattle.row_fields.specs.Fields.{fields}
use Rattle.load_options.specs.declared.options.Options.{Options}
use Rattle.dialect_rank.specs.Sampled.{sampled_spans}
use Rattle.csv_sniffer.specs.ColumnNames.{detected_names}
use Rattle.csv_sniffer.specs.Rows.{row_texts}
use Rattle.csv_sniffer.specs.Sniffed.{has_whole_row}
use Rattle.csv_sniffer.specs.declared.found.Sniffed.{Sniffed}

-- whether a row, as a header, gives the columns the names that were found: it has no more fields than there are columns
abbrev pub names_columns : Sniffed → List ℕ → Bool
names_columns s row = let columns = length s.names in
    nat_le (length (fields s.dialect row)) columns && pointwise bytes_eq (detected_names s.dialect columns (Some row)) s.names

-- whether a header was found and the sample's first row, in the dialect that was found, is one of the same names; and any sample where none was found
abbrev pub begins_alike : Options → Sniffed → List ℕ → Bool → Bool
begins_alike o s sample whole = let spans = sampled_spans s.dialect sample whole o.sample_size in
    not s.header || (has_whole_row sample whole spans && option_map_or (names_columns s) (slice_get (row_texts sample spans) 0) false)
