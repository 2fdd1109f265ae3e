use Rattle.std.proofs.Common.{false, ◌∙◌, ◌++◌, ◌∷◌, [], List, ℕ, arith, ap, refl}
use Rattle.std.specs.Prelude.{slice_range}
use Rattle.column_store.specs.ChunkView.{ChunkView}
use Rattle.row_fields.proofs.Searching.{next_special-tells}
use Rattle.range_scan.specs.FastRows.{text_cell}
use Rattle.range_scan.proofs.TextFields.{bare_text}
use Rattle.range_scan.proofs.fast_rows.texts.push_bare.Goals as goal

pub run-requires : goal.run-requires
run-requires c =
    let found = next_special-tells c.args.context.now.dialect c.args.bytes.now c.args.from false c.next_special-end.result (omega (arith, c.requires.within)) c.next_special-end.ensures in
    record { ordered = found.low; within = found.high }

pub returns-clause-at : goal.returns-clause-at
returns-clause-at c =
    let context = c.args.context.now in
    let bytes = c.args.bytes.now in
    let from = c.args.from in
    let end = c.next_special-end.result in
    let old : ChunkView = c.args.chunk.now in
    let found = next_special-tells context.dialect bytes from false end (omega (arith, c.requires.within)) c.next_special-end.ensures in
    record {
      low = found.low;
      high = omega (arith, found.high, c.if-end-bytes.false);
      cell = text_cell context.schema false (slice_range bytes from end);
      pushed = c.in_ok-push_value.ensures.ok ∙ ap (λ (v : List ℕ). record old { unfinished = old.unfinished ++ text_cell context.schema false v ∷ [] }) c.run.ensures;
      is = λ stops. bare_text context bytes from end c.requires.within c.requires.bare c.next_special-end.ensures;
      ascii = λ other. absurd (other refl);
    }
