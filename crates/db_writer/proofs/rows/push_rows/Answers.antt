use Rattle.std.proofs.Common.{◌≡◌, ◌+◌, ◌++◌, ◌∷◌, ◌∙◌, List, ℕ, suc, ap, sym, arith, drop, append_assoc, drop-cons}
use Rattle.std.specs.Prelude.{slice_range}
use Rattle.value_types.specs.Datum.{Datum}
use Rattle.column_store.specs.ChunkView.{ChunkView}
use Rattle.column_store.specs.Stacked.{rows_in}
use Rattle.csv_writer.proofs.WritableRows.{writable_chunks, chunk_at}
use Rattle.db_writer.specs.Written.{Written, records_of, with_records}
use Rattle.db_writer.proofs.RowsLaid.{part-appended}
use Rattle.db_writer.proofs.rows.push_rows.Goals as goal

pub push_part-requires-clause-writable : goal.push_part-requires-clause-writable
push_part-requires-clause-writable c =
    let chunks = (writable_chunks c.args.table.now.rows c.chunks.result.0.now c.chunks.result.1.now c.chunks.ensures.rows c.requires.writable).0 in
    chunk_at c.chunks.result.0.now c.loop-chunk.chunk-index c.chunk-item.result c.loop-chunk-test.true c.chunk-item.is chunks

pub loop-chunk-preserved : goal.loop-chunk-preserved
loop-chunk-preserved c =
    let chunks : List ChunkView = c.chunks.result.0.now in
    let at : ℕ = c.loop-chunk.chunk-index in
    let chunk : ChunkView = c.chunk-item.result in
    let last : List (List Datum) = c.chunks.result.1.now.rows in
    let rest : List (List Datum) = rows_in (drop (at + 1) chunks) ++ last in
    let into : Written = c.loop-chunk.writer in
    let new : Written = c.push_part.new.writer in
    let one : suc at ≡ at + 1 = omega arith in
    let left : rows_in (drop at chunks) ++ last ≡ chunk.rows ++ rest =
    ap (λ cs. rows_in cs ++ last) (drop-cons chunks at chunk c.loop-chunk-test.true ∙ ap (λ x. x ∷ drop (suc at) chunks) (sym c.chunk-item.is) ∙ ap (λ n. chunk ∷ drop n chunks) one)
    ∙ append_assoc chunk.rows (rows_in (drop (at + 1) chunks)) last in
    record {
      ordered = omega (arith, c.saturating_sub-low.ensures, c.saturating_sub-high.ensures, c.rows.ensures, c.rows-in-loop-chunk.ensures, c.loop-chunk.invariant.ordered);
      none = ap (λ (w : Written). w.values) c.in_ok-push_part.ensures.ok;
      rows =
          part-appended chunk.rows rest c.loop-chunk.low c.loop-chunk.high c.saturating_sub-low.result c.saturating_sub-high.result into new c.loop-chunk.invariant.ordered
          (omega (arith, c.saturating_sub-low.ensures, c.rows.ensures)) (omega (arith, c.saturating_sub-high.ensures, c.rows-in-loop-chunk.ensures)) c.in_ok-push_part.ensures.ok
          ∙ ap (λ rs. with_records into (records_of (slice_range rs c.loop-chunk.low c.loop-chunk.high))) (sym left)
          ∙ c.loop-chunk.invariant.rows;
    }

pub push_part-requires-2-clause-writable : goal.push_part-requires-2-clause-writable
push_part-requires-2-clause-writable c =
    (writable_chunks c.args.table.now.rows c.chunks.result.0.now c.chunks.result.1.now c.chunks.ensures.rows c.requires.writable).1
