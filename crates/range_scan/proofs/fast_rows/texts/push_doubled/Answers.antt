use Rattle.std.proofs.Common.{◌<◌, ◌+◌, ◌∙◌, ◌++◌, ◌∷◌, [], List, ℕ, arith, length, get_or, ap, refl}
use Rattle.std.specs.Prelude.{slice_range}
use Rattle.value_types.specs.Datum.{text}
use Rattle.value_types.specs.Texts.{on_last}
use Rattle.column_store.specs.ChunkView.{ChunkView}
use Rattle.column_store.specs.LongerText.{longer}
use Rattle.row_fields.proofs.DoubledReading.{next_within}
use Rattle.range_scan.proofs.TextFields.{begins_text, doubled_text, goes_on_text}
use Rattle.range_scan.proofs.TextSteps.{longer_by}
use Rattle.range_scan.proofs.fast_rows.texts.push_doubled.Goals as goal

pub run-requires-clause-ordered : goal.run-requires-clause-ordered
run-requires-clause-ordered c =
    (next_within c.args.context.now.dialect c.args.bytes.now c.args.from c.requires.holds.plain.leaves.sound c.requires.within c.requires.doubles (c.args.from + 1) c.args.first
    (omega (arith, c.requires.within)) c.requires.first).0

pub quotes-init : goal.quotes-init
quotes-init c =
    let bytes = c.args.bytes.now in
    let from = c.args.from in
    let first = c.args.first in
    let old : ChunkView = c.args.chunk.now in
    record {
      value = slice_range bytes (from + 1) first;
      pushed = c.in_ok-push_text.ensures.ok ∙ ap (λ (v : List ℕ). record old { unfinished = old.unfinished ++ text v ∷ [] }) c.run.ensures;
      has = begins_text c.args.context.now bytes from c.requires.holds.plain.leaves.sound c.requires.within c.requires.doubles first c.requires.first;
    }

pub run-requires-in-quotes-clause-ordered : goal.run-requires-in-quotes-clause-ordered
run-requires-in-quotes-clause-ordered c =
    let bytes = c.args.bytes.now in
    let from = c.args.from in
    let at = c.quotes.at in
    let r = c.next_byte-at.result in
    let two = c.is_doubled.ensures.yes c.quotes-test.true in
    let next = next_within c.args.context.now.dialect bytes from c.requires.holds.plain.leaves.sound c.requires.within c.requires.doubles (at + 2) r (omega (arith, two.0)) c.next_byte-at.ensures in
    omega (arith, next.0)

pub run-requires-in-quotes-clause-within : goal.run-requires-in-quotes-clause-within
run-requires-in-quotes-clause-within c =
    let bytes = c.args.bytes.now in
    let from = c.args.from in
    let at = c.quotes.at in
    let r = c.next_byte-at.result in
    let two = c.is_doubled.ensures.yes c.quotes-test.true in
    let next = next_within c.args.context.now.dialect bytes from c.requires.holds.plain.leaves.sound c.requires.within c.requires.doubles (at + 2) r (omega (arith, two.0)) c.next_byte-at.ensures in
    next.1

pub quotes-smaller : goal.quotes-smaller
quotes-smaller c =
    let bytes = c.args.bytes.now in
    let from = c.args.from in
    let at = c.quotes.at in
    let r = c.next_byte-at.result in
    let two = c.is_doubled.ensures.yes c.quotes-test.true in
    let next = next_within c.args.context.now.dialect bytes from c.requires.holds.plain.leaves.sound c.requires.within c.requires.doubles (at + 2) r (omega (arith, two.0)) c.next_byte-at.ensures in
    omega (arith, next.0, two.0)

pub quotes-preserved : goal.quotes-preserved
quotes-preserved c =
    let bytes = c.args.bytes.now in
    let from = c.args.from in
    let at = c.quotes.at in
    let r = c.next_byte-at.result in
    let two = c.is_doubled.ensures.yes c.quotes-test.true in
    let so = c.quotes.invariant in
    let old : ChunkView = c.args.chunk.now in
    let chunk : ChunkView = c.quotes.chunk in
    let more : List ℕ = slice_range bytes (at + 1) r in
    record {
      value = so.value ++ more;
      pushed = longer_by old chunk so.value so.pushed more c.extend_text.new.self
          (c.in_ok-extend_text.ensures.ok ∙ ap (λ (v : List ℕ). record chunk { unfinished = on_last (longer v) chunk.unfinished }) c.run-in-quotes.ensures);
      has = goes_on_text c.args.context.now bytes from c.requires.holds.plain.leaves.sound c.requires.within c.requires.doubles c.args.first at r so.value so.has two.0 two.1 c.next_byte-at.ensures;
    }

pub returns-clause-at : goal.returns-clause-at
returns-clause-at c =
    let bytes = c.args.bytes.now in
    let from = c.args.from in
    let at = c.quotes.at in
    let so = c.quotes.invariant in
    let lt : at + 1 < length bytes = omega (arith, so.has.read.high, c.if-bytes-at-le1.false) in
    record {
      low = omega (arith, so.has.read.low);
      high = lt;
      cell = text so.value;
      pushed = so.pushed;
      is = doubled_text c.args.context.now bytes from c.requires.holds.plain.leaves.sound c.requires.within c.requires.doubles c.args.first at so.value c.requires.holds so.has
          (λ here. ap (λ n. get_or bytes (n + 1) 0) here ∙ c.requires.doubled.1) (c.is_doubled.ensures.no c.quotes-test.false lt) lt;
      ascii = λ other. absurd (other refl);
    }
