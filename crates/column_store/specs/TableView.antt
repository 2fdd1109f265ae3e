-- What a table is to its callers (this loader's profile).
use Rattle.std.specs.Prelude.{ℕ, List, Option, map, slice_get}
use Rattle.std.specs.List.{slice_index_or}
use Rattle.std.specs.Option.{option_and_then}
use Rattle.value_types.specs.declared.types.ColumnType.{ColumnType}
use Rattle.value_types.specs.Datum.{Datum, null}

-- the types of the columns, the rows of cells in order, and how many rows may be appended without memory; by rows all columns have one
-- length, and appending is appending
pub record TableView : Type 0 where
  pub types : List ColumnType
  pub rows : List (List Datum)
  pub spare : ℕ

-- the cell of a column and a row
abbrev pub cell_of : List (List Datum) → ℕ → ℕ → Option Datum
cell_of rows column row = option_and_then (λ cells. slice_get cells column) (slice_get rows row)

-- the cells of a column
abbrev pub column_of : List (List Datum) → ℕ → List Datum
column_of rows column = map (λ cells. slice_index_or cells column null) rows
