use Rattle.std.proofs.Common.{arith}
use Rattle.value_types.proofs.PrintedDigits.{digits_alone}
use Rattle.value_types.proofs.digit_words.digits.Goals as goal

pub returns-clause-value : goal.returns-clause-value
returns-clause-value c =
    digits_alone 8 c.args.number c.digit_count-count.result c.eight_digits.result (omega arith) c.digit_count-count.ensures.value c.eight_digits.ensures
