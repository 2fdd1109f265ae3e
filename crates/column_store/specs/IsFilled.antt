-- How the columns of a chunk stand.
use Rattle.std.specs.Prelude.{◌≡◌, ◌≤◌, ◌<◌, ◌+◌, ◌^◌, ℕ, List, length}
use Rattle.std.specs.List.{slice_index_or}
use Rattle.column_store.specs.declared.column.Column.{Column}
use Rattle.column_store.specs.ColumnCells.{cells_of, room_of}

-- So many columns have a cell of the row under way: they have one cell more than there are rows, each other one has
-- as many. Where rows are spare, each has memory for them.
pub record IsFilled (columns : List Column) (rows begun spare : ℕ) : Type 0 where
  pub within : begun ≤ length columns
  pub longer : (number : ℕ) (other : Column) → number < begun → length (cells_of (slice_index_or columns number other)) ≡ rows + 1
  pub waiting : (number : ℕ) (other : Column) → begun ≤ number → number < length columns → length (cells_of (slice_index_or columns number other)) ≡ rows
  pub roomy : (number : ℕ) (other : Column) → number < length columns → 0 < spare → rows + spare ≤ room_of (slice_index_or columns number other)
  pub countable : rows + spare < 2 ^ 64
