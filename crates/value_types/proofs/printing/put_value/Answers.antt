use Rattle.std.proofs.Common.{◌≡◌, ◌∙◌, ap, sym, subst, ◌++◌, arith, take}
use Rattle.value_types.specs.Spelled.{IsSpelled}
use Rattle.value_types.specs.ValueText.{value_text, date_text, stamp_text}
use Rattle.value_types.proofs.CastSteps.{day_bits}
use Rattle.value_types.proofs.PrintSteps.{spelled_day_range, spelled_stamp_bits, spelled_time_bits}
use Rattle.value_types.proofs.printing.put_value.Goals as goal

pub overflow_cast-micros : goal.overflow_cast-micros
overflow_cast-micros c =
    let t = spelled_time_bits c.in-Time.micros (subst IsSpelled c.in-Time.is c.requires.spelled) in
    let short = t.1 in let e = t.2 in rw e (tt, omega (arith, short))

pub put_clock-requires-clause-day : goal.put_clock-requires-clause-day
put_clock-requires-clause-day c =
    let t = spelled_time_bits c.in-Time.micros (subst IsSpelled c.in-Time.is c.requires.spelled) in
    let e = t.2 in rw e t.1

pub returns-in-Date-clause-text : goal.returns-in-Date-clause-text
returns-in-Date-clause-text c =
    let range = spelled_day_range c.in-Date.day (subst IsSpelled c.in-Date.is c.requires.spelled) in
    subst (λ t. take c.put_date.result c.put_date.new.into ≡ take c.args.at c.args.into.now ++ t)
    (ap date_text (day_bits c.in-Date.day range) ∙ ap value_text (sym c.in-Date.is))
    c.put_date.ensures.text

pub returns-in-Stamp-clause-text : goal.returns-in-Stamp-clause-text
returns-in-Stamp-clause-text c =
    subst (λ t. take c.put_stamp.result c.put_stamp.new.into ≡ take c.args.at c.args.into.now ++ t)
    (ap stamp_text (spelled_stamp_bits c.in-Stamp.stamp (subst IsSpelled c.in-Stamp.is c.requires.spelled)) ∙ ap value_text (sym c.in-Stamp.is))
    c.put_stamp.ensures.text
