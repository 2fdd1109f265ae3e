use Rattle.std.proofs.Common.{◌≡◌, ◌+◌, ◌≤◌, ℕ, List, length, subst, true, arith}
use Rattle.std.specs.Prelude.{slice_range}
use Rattle.std.specs.Char.{is_ascii_digit}
use Rattle.std.specs.List.{list_all}
use Rattle.value_types.proofs.DigitCounts.{no_digit_behind}
use Rattle.value_types.proofs.SeenDigits.{digits_counted_at, digits_joined}
use Rattle.value_types.proofs.fronts.number.digits_front.Goals as goal

pub returns-then-count-lt8-clause-whole : goal.returns-then-count-lt8-clause-whole
returns-then-count-lt8-clause-whole c =
    no_digit_behind c.args.bytes.now c.args.from c.digit_count-count.result c.word_at.result (omega arith) (λ k lt. (c.type_inv.bytes k).fits)
    c.word_at.ensures c.digit_count-count.ensures.value c.if-count-lt8.true

pub returns-clause-whole : goal.returns-clause-whole
returns-clause-whole c =
    no_digit_behind c.args.bytes.now (c.args.from + 8) c.digit_count-more.result c.word_at-2.result (omega arith) (λ k lt. (c.type_inv.bytes k).fits)
    c.word_at-2.ensures c.digit_count-more.ensures.value (omega (arith, c.if-more-eq8.false, c.digit_count-more.ensures.most))

pub digits_at-requires-clause-digits : goal.digits_at-requires-clause-digits
digits_at-requires-clause-digits c =
    digits_counted_at c.args.bytes.now c.args.from c.digit_count-count.result c.word_at.result (omega arith) (λ k lt. (c.type_inv.bytes k).fits)
    c.word_at.ensures c.digit_count-count.ensures.value c.digit_count-count.ensures.most

pub long_number-requires-clause-digits : goal.long_number-requires-clause-digits
long_number-requires-clause-digits c =
    let bytes : List ℕ = c.args.bytes.now in
    let from = c.args.from in
    let count : ℕ = c.digit_count-count.result in
    let more : ℕ = c.digit_count-more.result in
    let long : from + 16 ≤ length bytes = omega (arith, c.requires.within, c.if-bytes-from-lt16.false) in
    let eight : count ≡ 8 = omega (arith, c.if-count-lt8.false, c.digit_count-count.ensures.most) in
    let first = digits_counted_at bytes from count c.word_at.result (omega (arith, long)) (λ k lt. (c.type_inv.bytes k).fits) c.word_at.ensures c.digit_count-count.ensures.value c.digit_count-count.ensures.most in
    let second = digits_counted_at bytes (from + 8) more c.word_at-2.result (omega (arith, long)) (λ k lt. (c.type_inv.bytes k).fits) c.word_at-2.ensures c.digit_count-more.ensures.value c.digit_count-more.ensures.most in
    digits_joined bytes from (from + 8) (from + 8 + more) (omega arith) (omega arith) (omega (arith, long, c.digit_count-more.ensures.most))
    (subst (λ n. list_all is_ascii_digit (slice_range bytes from (from + n)) ≡ true) eight first) second
