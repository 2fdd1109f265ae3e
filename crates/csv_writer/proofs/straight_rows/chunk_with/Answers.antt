use Rattle.std.proofs.Common.{◌≡◌, ◌<◌, ◌≤◌, ◌+◌, ◌-◌, ◌++◌, List, ℕ, [], length, drop, get_or, ap, sym, ◌∙◌, subst, arith}
use Rattle.std.proofs.lemmas.List.{drop_all, get_or_append_left, length-append}
use Rattle.std.proofs.Math.Seq.{get_or-append_right}
use Rattle.value_types.specs.Datum.{Datum}
use Rattle.column_store.specs.ChunkView.{ChunkView}
use Rattle.column_store.specs.Stacked.{rows_in}
use Rattle.csv_writer.proofs.WritableRows.{rows-ahead}
use Rattle.csv_writer.proofs.straight_rows.chunk_with.Goals as goal

pub loop-chunk-init : goal.loop-chunk-init
loop-chunk-init c = record {
  within = subst (λ (rows : List (List Datum)). c.args.row < length rows) c.chunks.ensures.rows c.requires.within;
  same = ap (λ (rows : List (List Datum)). get_or rows c.args.row []) (sym c.chunks.ensures.rows);
}

pub returns-then-place-rows-clause-same : goal.returns-then-place-rows-clause-same
returns-then-place-rows-clause-same c =
    let chunks : List ChunkView = c.chunks.result.0.now in
    let last : List (List Datum) = c.chunks.result.1.now.rows in
    let at : ℕ = c.loop-chunk.chunk-index in
    let chunk : ChunkView = c.chunk-item.result in
    let place : ℕ = c.loop-chunk.place in
    sym (get_or_append_left chunk.rows (rows_in (drop (at + 1) chunks) ++ last) [] place (omega arith))
    ∙ ap (λ (rows : List (List Datum)). get_or rows place []) (sym (rows-ahead chunks last at chunk c.loop-chunk-test.true c.chunk-item.is))
    ∙ c.loop-chunk.invariant.same

pub loop-chunk-preserved : goal.loop-chunk-preserved
loop-chunk-preserved c =
    let chunks : List ChunkView = c.chunks.result.0.now in
    let last : List (List Datum) = c.chunks.result.1.now.rows in
    let at : ℕ = c.loop-chunk.chunk-index in
    let chunk : ChunkView = c.chunk-item.result in
    let place : ℕ = c.loop-chunk.place in
    let rest : List (List Datum) = rows_in (drop (at + 1) chunks) ++ last in
    let ahead = rows-ahead chunks last at chunk c.loop-chunk-test.true c.chunk-item.is in
    let whole : place < length (chunk.rows ++ rest) = subst (λ (rows : List (List Datum)). place < length rows) ahead c.loop-chunk.invariant.within in
    record {
      within = omega (arith, whole, length-append chunk.rows rest);
      same =
          ap (λ n. get_or rest (place - n) []) c.rows-place.ensures
          ∙ sym (get_or-append_right chunk.rows rest place [] (omega arith))
          ∙ ap (λ (rows : List (List Datum)). get_or rows place []) (sym ahead)
          ∙ c.loop-chunk.invariant.same;
    }

-- behind the last of the earlier chunks
gone : (chunks : List ChunkView) (last : List (List Datum)) (at : ℕ) → length chunks ≤ at → rows_in (drop at chunks) ++ last ≡ last
gone chunks last at past = ap (λ cs. rows_in cs ++ last) (drop_all at chunks past)

pub returns-clause-within : goal.returns-clause-within
returns-clause-within c =
    subst (λ (rows : List (List Datum)). c.loop-chunk.place < length rows)
    (gone c.chunks.result.0.now c.chunks.result.1.now.rows c.loop-chunk.chunk-index (omega (arith, c.loop-chunk-test.false))) c.loop-chunk.invariant.within

pub returns-clause-same : goal.returns-clause-same
returns-clause-same c =
    ap (λ (rows : List (List Datum)). get_or rows c.loop-chunk.place [])
    (sym (gone c.chunks.result.0.now c.chunks.result.1.now.rows c.loop-chunk.chunk-index (omega (arith, c.loop-chunk-test.false)))) ∙ c.loop-chunk.invariant.same
