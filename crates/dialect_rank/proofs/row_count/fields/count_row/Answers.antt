use Rattle.std.proofs.Common.{◌≡◌, ◌+◌, ◌∙◌, true, get_or, sym, subst, arith}
use Rattle.byte_classes.specs.Fault.{is_line_end_byte}
use Rattle.row_fields.proofs.PlainReading.{delim_stops, line_end_stops}
use Rattle.dialect_rank.specs.RowCount.{HasCount}
use Rattle.dialect_rank.proofs.CountedRows.{HasCounted, counted_last, counted_more, none_counted}
use Rattle.dialect_rank.proofs.row_count.fields.count_row.Goals as goal

pub fields-init : goal.fields-init
fields-init c = record { within = omega arith; few = omega arith; some = omega arith; counted = none_counted c.args.dialect.now c.args.bytes.now }

pub fields-preserved : goal.fields-preserved
fields-preserved c =
    let d = c.args.dialect.now in
    let bytes = c.args.bytes.now in
    let stop = c.in_ok-stop.stop in
    let found = c.in_ok-stop.ensures in
    let so = c.fields.invariant in
    let sound = c.doubled_quote-doubled.ensures.sound in
    let delim : get_or bytes stop.end 0 ≡ d.delim = c.if-byte-delim.false ∙ c.delim-delim.ensures in record {
      within = omega (arith, found.high);
      few = omega (arith, so.few, found.low);
      some = omega (arith, so.some, c.one_if-quoted.ensures.few);
      counted = subst (λ n. HasCounted d bytes (stop.end + 1) (c.fields.fields + 1) (c.fields.quoted + n)) (sym c.one_if-quoted.ensures.value)
          (counted_more d sound bytes c.fields.from c.fields.fields c.fields.quoted so.counted stop.end stop.quoted (found.ends (delim_stops d (get_or bytes stop.end 0) sound delim)) found.high delim);
    }

pub returns-then-byte-delim : goal.returns-then-byte-delim
returns-then-byte-delim c =
    let d = c.args.dialect.now in
    let bytes = c.args.bytes.now in
    let stop = c.in_ok-stop.stop in
    let found = c.in_ok-stop.ensures in
    let sound = c.doubled_quote-doubled.ensures.sound in
    let ends : is_line_end_byte (get_or bytes stop.end 0) ≡ true = sym c.is_line_end.ensures ∙ c.if-not-is_line_end.false in
    subst (λ n. HasCount d bytes (record { end = stop.end; fields = c.fields.fields + 1; quoted = c.fields.quoted + n })) (sym c.one_if-quoted.ensures.value)
    (counted_last d sound bytes c.fields.from c.fields.fields c.fields.quoted c.fields.invariant.counted stop.end stop.quoted (found.ends (line_end_stops d (get_or bytes stop.end 0) ends)) found.high
    ends c.requires.no_comment)
