use Rattle.value_types.proofs.DigitCounts.{digits_counted}
use Rattle.value_types.proofs.words.digit_count.Goals as goal

pub returns-clause-value : goal.returns-clause-value
returns-clause-value c text is word = digits_counted text c.args.word is word
