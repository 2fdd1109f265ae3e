use Rattle.std.specs.Prelude.{slice_range}
use Rattle.value_types.proofs.PlainTexts.{cast_letters}
use Rattle.value_types.proofs.fronts.values.boolean_front.Goals as goal

pub returns-clause-value : goal.returns-clause-value
returns-clause-value c =
    let found = c.in_ok-truth in
    (cast_letters (slice_range c.args.bytes.now c.args.from c.if-is_ascii_alphabetic.end) found.truth found.ensures).0

pub returns-clause-plain : goal.returns-clause-plain
returns-clause-plain c =
    let found = c.in_ok-truth in
    (cast_letters (slice_range c.args.bytes.now c.args.from c.if-is_ascii_alphabetic.end) found.truth found.ensures).1
