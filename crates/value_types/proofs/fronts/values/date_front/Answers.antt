use Rattle.std.proofs.Common.{◌+◌, Some, sym, ap, ◌∙◌}
use Rattle.std.specs.Prelude.{slice_range}
use Rattle.value_types.proofs.CastSteps.{day_bits}
use Rattle.value_types.proofs.PlainTexts.{cast_numerals}
use Rattle.value_types.proofs.fronts.values.date_front.Goals as goal

pub returns-clause-value : goal.returns-clause-value
returns-clause-value c =
    let found = c.in_ok-day in
    (cast_numerals (slice_range c.args.bytes.now c.args.from (c.args.from + 10)) found.day found.ensures.value).0 ∙ sym (ap Some (day_bits found.day found.ensures.range))

pub returns-clause-plain : goal.returns-clause-plain
returns-clause-plain c =
    let found = c.in_ok-day in
    (cast_numerals (slice_range c.args.bytes.now c.args.from (c.args.from + 10)) found.day found.ensures.value).1
