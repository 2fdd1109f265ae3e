use Rattle.std.proofs.Common.{◌<◌, ◌+◌, ◌∙◌, ◌++◌, ◌∷◌, [], List, ℕ, true, arith, length, ap, refl}
use Rattle.std.specs.Prelude.{slice_range}
use Rattle.column_store.specs.ChunkView.{ChunkView}
use Rattle.range_scan.specs.FastRows.{text_cell}
use Rattle.row_fields.proofs.DoubledReading.{next_within}
use Rattle.range_scan.proofs.TextFields.{quoted_text}
use Rattle.range_scan.proofs.fast_rows.texts.push_quoted.Goals as goal

pub overflow_sub-bytes : goal.overflow_sub-bytes
overflow_sub-bytes c =
    let bytes = c.args.bytes.now in
    let from = c.args.from in
    let at = c.next_byte-at.result in
    let next = next_within c.args.context.now.dialect bytes from c.requires.holds.plain.leaves.sound c.requires.within c.requires.doubles (from + 1) at (omega (arith, c.requires.within)) c.next_byte-at.ensures in
    next.1

pub run-requires-clause-ordered : goal.run-requires-clause-ordered
run-requires-clause-ordered c =
    let bytes = c.args.bytes.now in
    let from = c.args.from in
    let at = c.next_byte-at.result in
    let next = next_within c.args.context.now.dialect bytes from c.requires.holds.plain.leaves.sound c.requires.within c.requires.doubles (from + 1) at (omega (arith, c.requires.within)) c.next_byte-at.ensures in
    next.0

pub returns-clause-at : goal.returns-clause-at
returns-clause-at c =
    let context = c.args.context.now in
    let bytes = c.args.bytes.now in
    let from = c.args.from in
    let at = c.next_byte-at.result in
    let next = next_within c.args.context.now.dialect bytes from c.requires.holds.plain.leaves.sound c.requires.within c.requires.doubles (from + 1) at (omega (arith, c.requires.within)) c.next_byte-at.ensures in
    let old : ChunkView = c.args.chunk.now in
    let lt : at + 1 < length bytes = omega (arith, next.1, c.if-bytes-at-le1.false) in
    record {
      low = omega (arith, next.0);
      high = lt;
      cell = text_cell context.schema true (slice_range bytes (from + 1) at);
      pushed = c.in_ok-push_value.ensures.ok ∙ ap (λ (v : List ℕ). record old { unfinished = old.unfinished ++ text_cell context.schema true v ∷ [] }) c.run.ensures;
      is = quoted_text context bytes from c.requires.holds.plain.leaves.sound c.requires.within c.requires.doubles at c.next_byte-at.ensures lt;
      ascii = λ other. absurd (other refl);
    }
