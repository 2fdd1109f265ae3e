use Rattle.std.proofs.Common.{◌≡◌, ◌+◌, ◌++◌, ◌∷◌, ◌∙◌, List, ℕ, suc, ap, sym, subst, arith, drop, append_assoc, drop-cons}
use Rattle.std.specs.Prelude.{All, flat_map, slice_range}
use Rattle.value_types.specs.Datum.{Datum}
use Rattle.column_store.specs.ChunkView.{ChunkView}
use Rattle.column_store.specs.Stacked.{rows_in}
use Rattle.report_text.specs.Lines.{row_line}
use Rattle.report_text.specs.PrintableRows.{IsPrintableRow}
use Rattle.report_text.proofs.Chunks.{All-front, All-back, chunk_at, printable_chunks}
use Rattle.text_pieces.proofs.RowTexts.{part_appended}
use Rattle.report_text.proofs.rows.push_rows.Goals as goal

pub push_part-requires-clause-fits : goal.push_part-requires-clause-fits
push_part-requires-clause-fits c =
    let types = c.args.table.now.types in
    let earlier = c.chunks.result.0.now in
    let rows = subst (All (IsPrintableRow types)) c.chunks.ensures.rows c.requires.fits in
    let all = printable_chunks types earlier c.chunks.ensures.types (All-front (IsPrintableRow types) (rows_in earlier) c.chunks.result.1.now.rows rows) in
    chunk_at earlier c.loop-chunk.chunk-index c.chunk-item.result c.loop-chunk-test.true c.chunk-item.is all

pub loop-chunk-preserved : goal.loop-chunk-preserved
loop-chunk-preserved c =
    let chunks : List ChunkView = c.chunks.result.0.now in
    let at : ℕ = c.loop-chunk.chunk-index in
    let chunk : ChunkView = c.chunk-item.result in
    let last : List (List Datum) = c.chunks.result.1.now.rows in
    let rest : List (List Datum) = rows_in (drop (at + 1) chunks) ++ last in
    let into : List ℕ = c.loop-chunk.into.text in
    let one : suc at ≡ at + 1 = omega arith in
    let left : rows_in (drop at chunks) ++ last ≡ chunk.rows ++ rest =
    ap (λ cs. rows_in cs ++ last) (drop-cons chunks at chunk c.loop-chunk-test.true ∙ ap (λ x. x ∷ drop (suc at) chunks) (sym c.chunk-item.is) ∙ ap (λ n. chunk ∷ drop n chunks) one)
    ∙ append_assoc chunk.rows (rows_in (drop (at + 1) chunks)) last in
    record {
      ordered = omega (arith, c.saturating_sub-low.ensures, c.saturating_sub-high.ensures, c.rows.ensures, c.rows-in-loop-chunk.ensures, c.loop-chunk.invariant.ordered);
      text =
          part_appended row_line chunk.rows rest c.loop-chunk.low c.loop-chunk.high c.saturating_sub-low.result c.saturating_sub-high.result into c.push_part.new.into.text c.loop-chunk.invariant.ordered
          (omega (arith, c.saturating_sub-low.ensures, c.rows.ensures)) (omega (arith, c.saturating_sub-high.ensures, c.rows-in-loop-chunk.ensures)) c.in_ok-push_part.ensures
          ∙ ap (λ rs. into ++ flat_map row_line (slice_range rs c.loop-chunk.low c.loop-chunk.high)) (sym left)
          ∙ c.loop-chunk.invariant.text;
    }

pub push_part-requires-2-clause-fits : goal.push_part-requires-2-clause-fits
push_part-requires-2-clause-fits c =
    let types = c.args.table.now.types in
    let last = c.chunks.result.1.now in
    let rows = subst (All (IsPrintableRow types)) c.chunks.ensures.rows c.requires.fits in
    subst (λ ts. All (IsPrintableRow ts) last.rows) (sym c.chunks.ensures.last_types) (All-back (IsPrintableRow types) (rows_in c.chunks.result.0.now) last.rows rows)
