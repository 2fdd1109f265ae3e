use Rattle.value_types.proofs.PrintedDigits.{four_word}
use Rattle.value_types.proofs.digit_words.four_digits.Goals as goal

pub returns-clause-value : goal.returns-clause-value
returns-clause-value c = four_word c.args.number _ _ c.requires c.pair.ensures.value c.pair-2.ensures.value
