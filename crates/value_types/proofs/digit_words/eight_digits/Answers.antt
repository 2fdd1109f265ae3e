use Rattle.value_types.proofs.PrintedDigits.{eight_word}
use Rattle.value_types.proofs.digit_words.eight_digits.Goals as goal

pub returns : goal.returns
returns c = eight_word c.args.number _ _ c.requires c.four_digits.ensures.value c.four_digits-2.ensures.value
