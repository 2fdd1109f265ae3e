-- Rows that have a text, in a table and in its chunks.
use Rattle.std.proofs.Common.{◌≡◌, ℕ, ◌<◌, true, List, [], ◌∷◌, ◌++◌, length, get_or, subst, sym}
use Rattle.std.specs.Prelude.{All}
use Rattle.std.proofs.lemmas.List.Elements.{All-nil, All-cons, All-head, All-tail}
use Rattle.value_types.specs.declared.types.ColumnType.{ColumnType}
use Rattle.value_types.specs.Datum.{Datum}
use Rattle.value_types.specs.OfType.{fit_all}
use Rattle.column_store.specs.ChunkView.{ChunkView}
use Rattle.column_store.specs.Stacked.{rows_in}
use Rattle.value_types.proofs.RowFits.{fit_lengths}
use Rattle.value_types.specs.Spelled.{IsSpelledCell}
use Rattle.report_text.specs.PrintableRows.{IsPrintableRow}

module _ {X : Type 0} (P : X → Type 0) where
  pub All-front : (xs ys : List X) → All P (xs ++ ys) → All P xs
  All-front [] ys h = All-nil P
  All-front (x ∷ xs) ys h = All-cons P x xs (All-head P x (xs ++ ys) h) (All-front xs ys (All-tail P x (xs ++ ys) h))

  pub All-back : (xs ys : List X) → All P (xs ++ ys) → All P ys
  All-back [] ys h = h
  All-back (x ∷ xs) ys h = All-back xs ys (All-tail P x (xs ++ ys) h)

-- rows that fit, of values that some text spells
pub printable_rows : (tys : List ColumnType) (rows : List (List Datum)) → All (λ cells. fit_all tys cells ≡ true) rows → All (λ cells. All IsSpelledCell cells) rows
    → All (IsPrintableRow tys) rows
printable_rows tys [] fit spelled = All-nil (IsPrintableRow tys)
printable_rows tys (row ∷ rows) fit spelled =
    All-cons (IsPrintableRow tys) row rows
    (record {
      count = fit_lengths tys row (All-head (λ cells. fit_all tys cells ≡ true) row rows fit);
      values = All-head (λ cells. All IsSpelledCell cells) row rows spelled;
    })
    (printable_rows tys rows (All-tail (λ cells. fit_all tys cells ≡ true) row rows fit) (All-tail (λ cells. All IsSpelledCell cells) row rows spelled))

abbrev pub IsPrintableChunk : ChunkView → Type 0
IsPrintableChunk chunk = All (IsPrintableRow chunk.types) chunk.rows

abbrev Has : List ColumnType → ChunkView → Type 0
Has tys chunk = chunk.types ≡ tys

-- the rows of chunks of the same types, each in its chunk
pub printable_chunks : (tys : List ColumnType) (chunks : List ChunkView) → All (λ chunk. chunk.types ≡ tys) chunks → All (IsPrintableRow tys) (rows_in chunks)
    → All (λ chunk. All (IsPrintableRow chunk.types) chunk.rows) chunks
printable_chunks tys [] same rows = All-nil IsPrintableChunk
printable_chunks tys (chunk ∷ chunks) same rows =
    All-cons IsPrintableChunk chunk chunks
    (subst (λ ts. All (IsPrintableRow ts) chunk.rows) (sym (All-head (Has tys) chunk chunks same)) (All-front (IsPrintableRow tys) chunk.rows (rows_in chunks) rows))
    (printable_chunks tys chunks (All-tail (Has tys) chunk chunks same) (All-back (IsPrintableRow tys) chunk.rows (rows_in chunks) rows))

-- the chunk at a place
pub chunk_at : (chunks : List ChunkView) (k : ℕ) (chunk : ChunkView) → k < length chunks → chunk ≡ get_or chunks k chunk → All IsPrintableChunk chunks → IsPrintableChunk chunk
chunk_at chunks k chunk inside is all = subst IsPrintableChunk (sym is) (all k chunk inside)
