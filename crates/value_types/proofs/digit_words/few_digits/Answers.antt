use Rattle.std.proofs.Common.{arith}
use Rattle.value_types.proofs.PrintedDigits.{digits_alone}
use Rattle.value_types.proofs.digit_words.few_digits.Goals as goal

pub returns-clause-value : goal.returns-clause-value
returns-clause-value c =
    digits_alone 4 c.args.number c.few_digit_count-count.result c.four_digits.result (omega arith) c.few_digit_count-count.ensures.value c.four_digits.ensures.value
