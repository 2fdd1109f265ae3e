use Rattle.std.proofs.Common.{◌∙◌, Bool, List, ap, sym}
use Rattle.std.specs.Prelude.{◌||◌}
use Rattle.value_types.specs.Datum.{Datum}
use Rattle.column_store.specs.Stacked.{rows_in}
use Rattle.npz_writer.proofs.NullMarks.{null-append, null_at_chunk, null_in}
use Rattle.npz_writer.proofs.columns.has_null.Goals as goal

pub returns-then-chunk_has_null : goal.returns-then-chunk_has_null
returns-then-chunk_has_null c =
    let chunks = c.chunks.result.0.now in
    let last : List (List Datum) = c.chunks.result.1.now.rows in
    sym (ap (λ rows. null_in rows c.args.column) c.chunks.ensures.rows ∙ null-append (rows_in chunks) last c.args.column
    ∙ ap (λ (x : Bool). x || null_in last c.args.column)
    (null_at_chunk chunks c.loop-chunk.chunk-index c.chunk-item.result c.args.column c.loop-chunk-test.true c.chunk-item.is (sym c.chunk_has_null.ensures ∙ c.if-chunk_has_null.true)))
