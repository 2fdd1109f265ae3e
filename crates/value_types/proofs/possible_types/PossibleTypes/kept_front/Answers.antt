use Rattle.std.specs.Prelude.{slice_range}
use Rattle.value_types.proofs.ValueBytes.{values_clock, values_letters, values_numerals, values_stamp}
use Rattle.value_types.proofs.possible_types.PossibleTypes.kept_front.Goals as goal

pub returns-in_ok-boolean_front-in-Some-Boolean-clause-plain : goal.returns-in_ok-boolean_front-in-Some-Boolean-clause-plain
returns-in_ok-boolean_front-in-Some-Boolean-clause-plain c = values_letters (slice_range c.args.bytes.now c.args.from c.in_ok-boolean_front-in-Some-Boolean.field-0.end) c.in_ok-boolean_front-in-Some-Boolean.ensures.plain

pub returns-in_ok-bigint_front-in-Some-Bigint-clause-plain : goal.returns-in_ok-bigint_front-in-Some-Bigint-clause-plain
returns-in_ok-bigint_front-in-Some-Bigint-clause-plain c = values_numerals (slice_range c.args.bytes.now c.args.from c.in_ok-bigint_front-in-Some-Bigint.field-0.end) c.in_ok-bigint_front-in-Some-Bigint.ensures.plain

pub returns-in_ok-date_front-in-Some-Date-clause-plain : goal.returns-in_ok-date_front-in-Some-Date-clause-plain
returns-in_ok-date_front-in-Some-Date-clause-plain c = values_numerals (slice_range c.args.bytes.now c.args.from c.in_ok-date_front-in-Some-Date.field-0.end) c.in_ok-date_front-in-Some-Date.ensures.plain

pub returns-in_ok-time_front-in-Some-Time-clause-plain : goal.returns-in_ok-time_front-in-Some-Time-clause-plain
returns-in_ok-time_front-in-Some-Time-clause-plain c = values_clock (slice_range c.args.bytes.now c.args.from c.in_ok-time_front-in-Some-Time.field-0.end) c.in_ok-time_front-in-Some-Time.ensures.plain

pub returns-in_ok-stamp_front-in-Some-Timestamp-clause-plain : goal.returns-in_ok-stamp_front-in-Some-Timestamp-clause-plain
returns-in_ok-stamp_front-in-Some-Timestamp-clause-plain c = values_stamp (slice_range c.args.bytes.now c.args.from c.in_ok-stamp_front-in-Some-Timestamp.field-0.end) c.in_ok-stamp_front-in-Some-Timestamp.ensures.plain
