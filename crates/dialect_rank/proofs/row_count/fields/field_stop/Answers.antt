use Rattle.std.proofs.Common.{◌≡◌, ◌<◌, ◌∙◌, false, length, get_or, sym, ap, arith}
use Rattle.byte_classes.specs.Dialect.{is_byte}
use Rattle.row_fields.proofs.BareReading.{not_quote}
use Rattle.row_fields.proofs.Searching.{next_special-tells}
use Rattle.dialect_rank.proofs.CountedRows.{bare_end}
use Rattle.dialect_rank.proofs.row_count.fields.field_stop.Goals as goal

pub returns : goal.returns
returns c =
    let d = c.args.dialect.now in
    let bytes = c.args.bytes.now in
    let from = c.args.from in
    let end = c.next_special-end.result in
    let within : from < length bytes = omega (arith, c.requires.within, c.if-from-bytes.false) in
    let bare : is_byte d.quote (get_or bytes from 0) ≡ false =
    ap (λ o. is_byte o (get_or bytes from 0)) (sym c.quote.ensures.value) ∙ not_quote c.quote.result (get_or bytes from 0) (sym c.eq.ensures ∙ c.if-eq.false) in
    let found = next_special-tells d bytes from false end c.requires.within c.next_special-end.ensures in record {
      low = found.low;
      high = omega (arith, found.high, c.if-end-bytes.false);
      ends = λ stops. bare_end d bytes from end within bare c.next_special-end.ensures;
    }
