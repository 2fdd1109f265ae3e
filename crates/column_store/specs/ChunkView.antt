-- What a chunk is to its callers (this loader's profile).
use Rattle.std.specs.Prelude.{ℕ, List, map, take}
use Rattle.value_types.specs.declared.types.ColumnType.{ColumnType}
use Rattle.value_types.specs.Datum.{Datum}
use Rattle.value_types.specs.Views.{row_at}
use Rattle.column_store.specs.declared.column.Column.{Column}
use Rattle.column_store.specs.ColumnCells.{cells_of, type_of}
use Rattle.column_store.specs.RowsOfColumns.{rows_of}

-- the types of the columns, the finished rows in order, the cells of the row under way, and how many rows may be
-- appended without memory
pub record ChunkView : Type 0 where
  pub types : List ColumnType
  pub rows : List (List Datum)
  pub unfinished : List Datum
  pub spare : ℕ

-- the columns hold so many finished rows, and the first of them, as many as have begun, a cell of the row under way
abbrev pub chunk_view : List Column → ℕ → ℕ → ℕ → ChunkView
chunk_view columns rows begun spare = record {
  types = map type_of columns;
  rows = rows_of (map cells_of columns) rows;
  unfinished = row_at (take begun (map cells_of columns)) rows;
  spare = spare;
}
