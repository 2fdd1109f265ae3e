-- What calls do to each column of a chunk.
use Rattle.std.specs.Prelude.{◌≡◌, ◌≤◌, ◌<◌, ◌+◌, ◌++◌, ℕ, List, length, take}
use Rattle.std.specs.List.{slice_index_or}
use Rattle.column_store.specs.declared.column.Column.{Column}
use Rattle.column_store.specs.ColumnCells.{cells_of, room_of, type_of}

-- the columns are as many as before, and this holds of each one before and after
pub record EachColumn (Changed : ℕ → Column → Column → Type 0) (old new : List Column) : Type 0 where
  pub count : length new ≡ length old
  pub each : (number : ℕ) (other : Column) → number < length old → Changed number (slice_index_or old number other) (slice_index_or new number other)

-- only the first cells are left
pub record IsCut (rows : ℕ) (old new : Column) : Type 0 where
  pub ty : type_of new ≡ type_of old
  pub cells : cells_of new ≡ take rows (cells_of old)
  pub room : room_of new ≡ room_of old

-- only what the cells are kept in may have changed
pub record HasCells (old new : Column) : Type 0 where
  pub ty : type_of new ≡ type_of old
  pub cells : cells_of new ≡ cells_of old

-- only the memory may have grown
pub record KeepsCells (old new : Column) : Type 0 where
  pub ty : type_of new ≡ type_of old
  pub cells : cells_of new ≡ cells_of old
  pub room : room_of old ≤ room_of new

-- the old cells stand at the front
pub record KeepsFront (old new : Column) : Type 0 where
  pub ty : type_of new ≡ type_of old
  pub cells : take (length (cells_of old)) (cells_of new) ≡ cells_of old
  pub room : room_of old ≤ room_of new

-- only the memory may have grown, and so many more cells fit
pub record IsReserved (more : ℕ) (old new : Column) : Type 0 where
  pub keeps : KeepsCells old new
  pub room : length (cells_of new) + more ≤ room_of new

-- the cells of its twin stand behind the old ones
pub record IsAppended (others : List Column) (number : ℕ) (old new : Column) : Type 0 where
  pub keeps : KeepsFront old new
  pub cells : cells_of new ≡ cells_of old ++ cells_of (slice_index_or others number old)
