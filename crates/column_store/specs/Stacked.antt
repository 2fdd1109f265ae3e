-- Chunks that stand one behind another in a table.
use Rattle.std.specs.Prelude.{◌≡◌, ◌≤◌, ◌<◌, ◌+◌, ◌-◌, ◌^◌, ℕ, List, [], ◌∷◌, ◌++◌, length, All}
use Rattle.std.specs.List.{flat_map}
use Rattle.value_types.specs.Datum.{Datum}
use Rattle.column_store.specs.ChunkView.{ChunkView}

-- the rows of the chunks, in order
abbrev pub rows_in : List ChunkView → List (List Datum)
rows_in chunks = flat_map (λ chunk. chunk.rows) chunks

-- how many rows there are up to the end of each chunk, and so many before them all
abbrev pub ends_from : ℕ → List ChunkView → List ℕ
ends_from before [] = []
ends_from before (chunk ∷ chunks) = (before + length chunk.rows) ∷ ends_from (before + length chunk.rows) chunks

-- how the chunks of a table stand: those before the last one, their ends, and the last one
pub record IsStacked (earlier : List ChunkView) (ends : List ℕ) (last : ChunkView) : Type 0 where
  pub types : All (λ chunk. chunk.types ≡ last.types) earlier
  pub whole : All (λ chunk. chunk.unfinished ≡ []) earlier
  pub last_whole : last.unfinished ≡ []
  pub placed : ends ≡ ends_from 0 earlier
  pub countable : length (rows_in earlier ++ last.rows) + last.spare < 2 ^ 64

-- a chunk has got these rows in the place of spare ones
abbrev pub HasAppended : ChunkView → ChunkView → List (List Datum) → Type 0
HasAppended old new more = new ≡ record {
  types = old.types;
  rows = old.rows ++ more;
  unfinished = old.unfinished;
  spare = old.spare - length more;
}

-- a chunk has got some rows, so many at most, in the place of spare ones
abbrev pub HasAppendedSome : ℕ → ChunkView → ChunkView → Type 0
HasAppendedSome most old new = (more : List (List Datum)) × (length more ≤ most) × HasAppended old new more
