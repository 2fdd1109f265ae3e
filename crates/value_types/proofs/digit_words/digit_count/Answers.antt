use Rattle.value_types.proofs.PrintedDigits.{digits_counted_by_steps}
use Rattle.value_types.proofs.digit_words.digit_count.Goals as goal

pub returns-clause-value : goal.returns-clause-value
returns-clause-value c =
    digits_counted_by_steps c.args.number _ _ _ _ _ _ c.requires
    (record { one = c.reaches.ensures.one; none = c.reaches.ensures.none })
    (record { one = c.reaches-2.ensures.one; none = c.reaches-2.ensures.none })
    (record { one = c.reaches-3.ensures.one; none = c.reaches-3.ensures.none })
    (record { one = c.reaches-4.ensures.one; none = c.reaches-4.ensures.none })
    (record { one = c.reaches-5.ensures.one; none = c.reaches-5.ensures.none })
    (record { one = c.reaches-6.ensures.one; none = c.reaches-6.ensures.none })
