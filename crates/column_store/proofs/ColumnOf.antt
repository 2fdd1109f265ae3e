-- One column of a chunk.
use Rattle.std.proofs.Common.{◌≡◌, ℕ, ◌<◌, ◌≤◌, sym, ap, ◌∙◌, arith, List, [], Some, length, get_or, take, map}
use Rattle.std.specs.Prelude.{slice_get}
use Rattle.std.proofs.lemmas.List.{get_or-map, get_or-take, get_or_default, length-map, length-take, same_lists}
use Rattle.std.proofs.lemmas.Option.{slice_get-get_or}
use Rattle.value_types.specs.Datum.{Datum, null}
use Rattle.value_types.specs.Views.{row_at}
use Rattle.value_types.specs.declared.types.ColumnType.{ColumnType}
use Rattle.column_store.specs.declared.column.Column.{Column}
use Rattle.column_store.specs.ColumnCells.{cells_of, type_of}
use Rattle.column_store.specs.RowsOfColumns.{rows_of}
use Rattle.column_store.specs.TableView.{column_of}
use Rattle.column_store.proofs.Rows.{get_or-rows_of, length-rows_of}

module _ (columns : List Column) (number : ℕ) (column : Column) (inside : number < length columns) (is : column ≡ get_or columns number column) where
  -- the type of the column of a number
  pub type_of_columns : slice_get (map type_of columns) number ≡ Some (type_of column)
  type_of_columns =
      slice_get-get_or (map type_of columns) number (type_of column) (omega (arith, length-map columns type_of))
      ∙ ap Some (get_or-map type_of columns number column (type_of column) inside ∙ ap type_of (sym is))

  -- its cells
  pub column_of_columns : (count : ℕ) → count ≤ length (cells_of column) → take count (cells_of column) ≡ column_of (rows_of (map cells_of columns) count) number
  column_of_columns count long =
      let cells : List Datum = cells_of column in
      let rows : List (List Datum) = rows_of (map cells_of columns) count in
      let front : length (take count cells) ≡ count = omega (arith, length-take count cells) in
      let count_is : length rows ≡ count = length-rows_of (map cells_of columns) count in
      same_lists (take count cells) (column_of rows number) (front ∙ sym (length-map rows (λ (row : List Datum). get_or row number null) ∙ count_is))
      (λ k d below.
      let here : k < count = omega (arith, below, front) in
      get_or_default (take count cells) k d null below ∙ get_or-take count cells k null here
      ∙ sym (get_or-map (λ (row : List Datum). get_or row number null) rows k [] d (omega (arith, here, count_is))
      ∙ ap (λ row. get_or row number null) (get_or-rows_of (map cells_of columns) count k [] here)
      ∙ get_or-map (λ (others : List Datum). get_or others k null) (map cells_of columns) number cells null (omega (arith, inside, length-map columns cells_of))
      ∙ ap (λ others. get_or others k null) (get_or-map cells_of columns number column cells inside ∙ ap cells_of (sym is))))
