-- The cell that a text becomes in the next column of the row under way.
use Rattle.std.specs.Prelude.{ℕ, List, length, slice_get, Option, option_and_then}
use Rattle.value_types.specs.Datum.{Datum}
use Rattle.value_types.specs.OfType.{typed_cell}
use Rattle.column_store.specs.ChunkView.{ChunkView}

-- none where the text can't be cast to the column's type
abbrev pub spelled_cell : ChunkView → List ℕ → Option Datum
spelled_cell chunk text = option_and_then (typed_cell text) (slice_get chunk.types (length chunk.unfinished))
