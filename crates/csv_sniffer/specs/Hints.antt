-- Words that may be worth a try (this loader's profile).
use Rattle.std.specs.Prelude.{ℕ, ◌==◌, ◌&&◌, ◌||◌, not, nat_lt, Bool, if◌then◌else◌, List, [], ◌∷◌, ◌++◌, map, filter, flat_map, codes, Option, Some, None}
use Rattle.std.specs.List.{list_any}
use Rattle.std.specs.Option.{is_some}
use Rattle.std.specs.Str.{byte, bytes_eq}
use Rattle.value_types.specs.declared.types.ColumnType.{ColumnType}
use Rattle.value_types.specs.declared.types.ColumnType.TheVariants as types
use Rattle.value_types.specs.OfType.{same_type}
use Rattle.load_options.specs.declared.options.Options.{Options}
use Rattle.csv_source.specs.Lists.{is_empty}
use Rattle.csv_sniffer.specs.ColumnTypes.{type_of_values}
use Rattle.csv_sniffer.specs.SeparatorLine.{tells_delimiter}
use Rattle.csv_sniffer.specs.Header.{is_varchar}
use Rattle.csv_sniffer.specs.ZeroColumns.{has_leading_zero}
use Rattle.csv_sniffer.specs.declared.explaining.entries.ColumnSample.{ColumnSample}
use Rattle.csv_sniffer.specs.declared.explaining.entries.Entry.{Entry}
use Rattle.csv_sniffer.specs.declared.explaining.hints.Hint.{Hint}
use Rattle.csv_sniffer.specs.declared.explaining.hints.Hint.TheVariants as hints
use Rattle.csv_sniffer.specs.declared.found.Sniffed.{Sniffed}

-- ---- leading zeros

-- a column of numbers of which one has a leading zero, and whose name can stand in a list
abbrev pub loses_zeros : ColumnSample → Bool
loses_zeros column =
    column.found && same_type column.ty types.Bigint && not (list_any (λ b. b == byte ",") column.name)
    && list_any (λ (e : Entry). has_leading_zero e.value) column.entries

-- ---- texts that stand for null

-- the texts that are tried
abbrev pub tried_nulls : List (List ℕ)
tried_nulls =
    codes "NA" ∷ codes "N/A" ∷ codes "NULL" ∷ codes "null" ∷ codes "-" ∷ codes "\\N" ∷ codes "None" ∷ codes "NaN" ∷ []

-- whether a value would be null, were this text one that stands for null
abbrev pub is_such_null : Options → List ℕ → Entry → Bool
is_such_null o text e = bytes_eq e.value text && (not e.quoted || o.allow_quoted_nulls)

-- the type that a column's values would have
abbrev pub type_beside : Options → List ℕ → List Entry → ColumnType
type_beside o text entries = type_of_values (map (λ (e : Entry). e.value) (filter (λ e. not (is_such_null o text e)) entries))

-- a column of texts that would be of another type
abbrev pub is_freed : Options → List ℕ → ColumnSample → Bool
is_freed o text column = column.found && is_varchar column.ty && not (is_varchar (type_beside o text column.entries))

-- ---- all of them

abbrev pub delim_hints : Option ℕ → List Hint
delim_hints None = []
delim_hints (Some delim) = hints.Delim delim ∷ []

abbrev pub hint_if : Bool → Hint → List Hint
hint_if comes hint = if comes then hint ∷ [] else []

-- no line is passed over, and the first one tells the delimiter to a spreadsheet
abbrev pub may_skip : Options → List ℕ → Bool
may_skip o sample = (o.skip == 0) && tells_delimiter sample

abbrev pub zero_hint : ColumnSample → List Hint
zero_hint column = if loses_zeros column then hints.Varchar column.name ∷ [] else []

-- whether no text that stands for null is given but the empty one
abbrev pub may_name_nulls : Options → Bool
may_name_nulls o = is_empty o.nullstr && is_empty o.nulls

abbrev pub null_hint : Options → List ColumnSample → List ℕ → List Hint
null_hint o columns text = if list_any (is_freed o text) columns then hints.NullText text ∷ [] else []

abbrev pub null_hints : Options → List ColumnSample → List Hint
null_hints o columns = if may_name_nulls o then flat_map (null_hint o columns) tried_nulls else []

-- what would cut rows otherwise, and what would change the types of columns
abbrev pub hints_of : Options → Sniffed → List ℕ → List ColumnSample → List Hint
hints_of o s sample columns =
    delim_hints s.noticed.other_delim ++ hint_if (nat_lt 0 s.noticed.comment_lines) hints.Comment ++ hint_if (may_skip o sample) hints.Skip
    ++ hint_if (is_some s.noticed.idle_quote) hints.Quote ++ flat_map zero_hint columns ++ null_hints o columns
