use Rattle.std.proofs.Common.{◌<◌, ◌≤◌, ◌+◌, length, arith}
use Rattle.row_fields.proofs.DoubledReading.{either_way, next_within, opened, paired}
use Rattle.dialect_rank.proofs.CountedRows.{quoted_end}
use Rattle.dialect_rank.proofs.row_count.fields.quoted_end.Goals as goal

pub quotes-init : goal.quotes-init
quotes-init c =
    let d = c.args.dialect.now in
    let bytes = c.args.bytes.now in
    let r = c.next_byte-at.result in
    either_way d bytes c.args.from c.requires.sound c.requires.within c.requires.doubles r (opened d bytes c.args.from c.requires.sound c.requires.within c.requires.doubles r c.next_byte-at.ensures)

pub quotes-smaller : goal.quotes-smaller
quotes-smaller c =
    let bytes = c.args.bytes.now in
    let at = c.quotes.at in
    let two = c.is_doubled.ensures.yes c.quotes-test.true in
    let room : at + 2 ≤ length bytes = omega (arith, two.0) in
    let next = next_within c.args.dialect.now bytes c.args.from c.requires.sound c.requires.within c.requires.doubles (at + 2) c.next_byte-at-in-quotes.result room c.next_byte-at-in-quotes.ensures in
    omega (arith, next.0, room)

pub quotes-preserved : goal.quotes-preserved
quotes-preserved c =
    let two = c.is_doubled.ensures.yes c.quotes-test.true in
    paired c.args.dialect.now c.args.bytes.now c.args.from c.requires.sound c.requires.within c.requires.doubles c.quotes.at c.next_byte-at-in-quotes.result
    c.quotes.invariant two.0 two.1 c.next_byte-at-in-quotes.ensures

pub returns-clause-ends : goal.returns-clause-ends
returns-clause-ends c =
    let bytes = c.args.bytes.now in
    let at = c.quotes.at in
    let high : at ≤ length bytes = c.quotes.invariant.high in
    let behind : at + 1 < length bytes = omega (arith, high, c.if-bytes-at-le1.false) in
    quoted_end c.args.dialect.now bytes c.args.from c.requires.sound c.requires.within c.requires.doubles at c.quotes.invariant behind
