use Rattle.value_types.proofs.PrintedDigits.{few_digits_counted}
use Rattle.value_types.proofs.digit_words.few_digit_count.Goals as goal

pub returns-clause-value : goal.returns-clause-value
returns-clause-value c =
    few_digits_counted c.args.number _ _ _ c.requires
    (record { one = c.reaches.ensures.one; none = c.reaches.ensures.none })
    (record { one = c.reaches-2.ensures.one; none = c.reaches-2.ensures.none })
    (record { one = c.reaches-3.ensures.one; none = c.reaches-3.ensures.none })
