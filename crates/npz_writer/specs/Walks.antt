-- A walk through the bytes of an array, in blocks.
use Rattle.std.specs.Prelude.{◌≡◌, ◌⊎◌, ◌≤◌, ◌<◌, ℕ, ◌+◌, Bool, true, false, List, [], ◌++◌, if◌then◌else◌, drop, length, slice_get, take, All, Some}
use Rattle.value_types.specs.declared.types.ColumnType.{ColumnType}
use Rattle.value_types.specs.declared.types.ColumnType.TheVariants as types
use Rattle.value_types.specs.Datum.{Datum}
use Rattle.value_types.specs.Views.{HasRows, view_cells}
use Rattle.column_store.specs.ChunkView.{ChunkView}
use Rattle.column_store.specs.Stacked.{rows_in}
use Rattle.column_store.specs.ViewTypes.{type_of_view}
use Rattle.npz_writer.specs.declared.part.Part.{Part}
use Rattle.npz_writer.specs.declared.part.Part.TheVariants.{Values}
use Rattle.npz_writer.specs.declared.run.Run.{Run}
use Rattle.npz_writer.specs.Arrays.{bytes_from}

-- ---- a run of rows of one column

-- the cells that are to come
abbrev pub run_cells : Run → List Datum
run_cells run = drop run.row (take run.rows (view_cells run.view))

-- the bytes that are to come with those of later cells
abbrev pub run_bytes : Part → Run → List Datum → List ℕ
run_bytes part run later = run.pending.now ++ bytes_from (type_of_view run.view) part run.begin (run_cells run ++ later)

-- only the values of texts are bytes of which some may be pending
abbrev pub takes_texts : Part → ColumnType → Bool
takes_texts Values types.Varchar = true
takes_texts part ty = false

pub record IsRun (part : Part) (run : Run) : Type 0 where
  pub long : HasRows run.rows run.view
  pub within : run.row ≤ run.rows
  pub pending : takes_texts part (type_of_view run.view) ≡ false → run.pending.now ≡ []

-- some rows or some bytes are to come
abbrev pub HasMore : Run → Type 0
HasMore run = (run.row < run.rows) ⊎ (0 < length run.pending.now)

-- some bytes have come out of a run, or some cells
pub record Fills (part : Part) (old new : Run) (count : ℕ) (block : List ℕ) : Type 0 where
  pub is : IsRun part new
  pub view : new.view ≡ old.view
  pub rows : new.rows ≡ old.rows
  pub within : count ≤ length block
  pub bytes : (later : List Datum) → run_bytes part old later ≡ take count block ++ run_bytes part new later
  pub moved : length (run_cells new) < length (run_cells old) + count

-- ---- a walk through chunks

-- the rows of chunks that are to come, the last of which may have come
abbrev pub rows_to_come : List ChunkView → Bool → ChunkView → List (List Datum)
rows_to_come later last_comes last = rows_in later ++ (if last_comes then last.rows else [])

-- how many chunks are to come
abbrev pub chunks_to_come : List ChunkView → Bool → ℕ
chunks_to_come later last_comes = length later + (if last_comes then 1 else 0)

-- the column of a number is of a type
abbrev pub HasColumn : ℕ → ColumnType → ChunkView → Type 0
HasColumn column ty chunk = slice_get chunk.types column ≡ Some ty

-- a run under way, and chunks whose columns of a number are of its type
pub record IsWalk (part : Part) (now : Run) (column : ℕ) (chunks : List ChunkView) (end : ChunkView) : Type 0 where
  pub run : IsRun part now
  pub later : All (HasColumn column (type_of_view now.view)) chunks
  pub last : HasColumn column (type_of_view now.view) end

-- the bytes that are pending, the cells whose bytes are to come, where their texts begin among all, and how many chunks are to come
pub record WalkView : Type 0 where
  pub ty : ColumnType
  pub part : Part
  pub pending : List ℕ
  pub begin : ℕ
  pub cells : List Datum
  pub chunks : ℕ

-- the bytes that are to come
abbrev pub rest : WalkView → List ℕ
rest walk = walk.pending ++ bytes_from walk.ty walk.part walk.begin walk.cells

-- more than the steps that are to come
abbrev pub steps : WalkView → ℕ
steps walk = length (rest walk) + length walk.cells + walk.chunks

-- a block of bytes has come
pub record Steps (old new : WalkView) (count : ℕ) (block : List ℕ) : Type 0 where
  pub within : count ≤ length block
  pub bytes : rest old ≡ take count block ++ rest new
  pub fewer : steps new < steps old
