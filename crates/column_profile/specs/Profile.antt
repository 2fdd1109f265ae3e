-- The profile of a table, and its text.
use Rattle.std.specs.Prelude.{◌≡◌, ℕ, List, [], ◌∷◌, ◌++◌, length, map, flat_map, codes, Option, Some, None}
use Rattle.std.specs.Fmt.{decimal}
use Rattle.std.specs.List.{range_with_len, slice_index_or}
use Rattle.value_types.specs.declared.types.ColumnType.{ColumnType}
use Rattle.value_types.specs.declared.types.ColumnType.TheVariants as types
use Rattle.value_types.specs.Datum.{Datum, null}
use Rattle.value_types.specs.TypeName.{name_of_type}
use Rattle.value_types.specs.ValueText.{value_text}
use Rattle.csv_writer.specs.WrittenTable.{line_of_fields, names_line, text_field}
use Rattle.column_profile.specs.Tally.{Tally, tally_of, apart_count}

-- the cells of a column, counted from 0
abbrev pub cells_in : ℕ → List (List Datum) → List Datum
cells_in column rows = map (λ row. slice_index_or row column null) rows

-- the types of the columns, how many rows there are, and what is known of each column
pub record ProfileView : Type 0 where
  pub types : List ColumnType
  pub rows : ℕ
  pub tallies : List Tally

abbrev pub profile_of : List ColumnType → List (List Datum) → ProfileView
profile_of tys rows = record {
  types = tys;
  rows = length rows;
  tallies = map (λ column. tally_of (cells_in column rows)) (range_with_len 0 (length tys));
}

-- of the profile of any rows it has become that of these and the other rows behind them
pub record Continues (old : ProfileView) (more : List (List Datum)) (new : ProfileView) : Type 0 where
  pub types : new.types ≡ old.types
  pub profile : (rows : List (List Datum)) → old ≡ profile_of old.types rows → new ≡ profile_of old.types (rows ++ more)

-- ---- its text: a line of names, and one for each column

abbrev pub profile_fields : List (List ℕ)
profile_fields =
    codes "column" ∷ codes "name" ∷ codes "type" ∷ codes "rows" ∷ codes "nulls" ∷ codes "distinct"
    ∷ codes "least" ∷ codes "greatest" ∷ codes "shortest" ∷ codes "longest" ∷ []

-- a field, and nothing for none
abbrev pub field_if_some : {A : Type 0} → (A → List ℕ) → Option A → List ℕ
field_if_some field None = []
field_if_some field (Some x) = field x

-- the line of a column of this number, name and type, where there are so many rows
abbrev pub column_line : ℕ → List ℕ → ColumnType → ℕ → Tally → List ℕ
column_line column name ty rows tally = line_of_fields (
    decimal column
    ∷ text_field name
    ∷ name_of_type ty
    ∷ decimal rows
    ∷ decimal tally.nulls
    ∷ field_if_some (λ apart. decimal (apart_count apart)) tally.apart
    ∷ field_if_some (λ span. value_text span.least) tally.span
    ∷ field_if_some (λ span. value_text span.greatest) tally.span
    ∷ field_if_some (λ lengths. decimal lengths.shortest) tally.lengths
    ∷ field_if_some (λ lengths. decimal lengths.longest) tally.lengths
    ∷ [])

-- the line of the column of this number, counted from 0
abbrev pub line_at : List (List ℕ) → ProfileView → ℕ → List ℕ
line_at names profile column = column_line column (slice_index_or names column []) (slice_index_or profile.types column types.Varchar) profile.rows
    (slice_index_or profile.tallies column (tally_of []))

abbrev pub written_profile : List (List ℕ) → ProfileView → List ℕ
written_profile names profile = names_line profile_fields ++ flat_map (line_at names profile) (range_with_len 0 (length profile.types))

-- the profile of a table's rows as text
abbrev pub profile_text : List (List ℕ) → List ColumnType → List (List Datum) → List ℕ
profile_text names tys rows = written_profile names (profile_of tys rows)
