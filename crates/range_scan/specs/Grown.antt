-- A chunk to which the rows of a range were appended.
use Rattle.std.specs.Prelude.{◌≡◌, [], ◌++◌}
use Rattle.column_store.specs.ChunkView.{ChunkView}
use Rattle.range_scan.specs.declared.grown.Grown.{Grown}
use Rattle.range_scan.specs.Scanned.{Scanned}

-- the good rows of the scanned range stand behind the chunk's own, and what else it is stands beside them
pub record IsGrownBy (part : Scanned) (chunk : ChunkView) (grown : Grown) : Type 0 where
  pub types : grown.chunk.types ≡ part.types
  pub whole : grown.chunk.unfinished ≡ []
  pub rows : grown.chunk.rows ≡ chunk.rows ++ part.rows
  pub end : grown.end ≡ part.end
  pub book : grown.book ≡ part.book
  pub line_ends : grown.line_ends ≡ part.line_ends
