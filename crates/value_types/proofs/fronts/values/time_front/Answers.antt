use Rattle.std.proofs.Common.{Some, sym, ap, ◌∙◌, rules, w64}
use Rattle.std.specs.Prelude.{slice_range}
use Rattle.std.proofs.lemmas.Int.{to_z-of_z}
use Rattle.value_types.proofs.PlainTexts.{cast_clock}
use Rattle.value_types.proofs.fronts.values.time_front.Goals as goal

pub returns-clause-value : goal.returns-clause-value
returns-clause-value c =
    let found = c.in_ok-micros in
    (cast_clock (slice_range c.args.bytes.now c.args.from c.in_ok-end.end) found.micros found.ensures.value).0 ∙ sym (ap Some (to_z-of_z w64 found.micros (search rules)))

pub returns-clause-plain : goal.returns-clause-plain
returns-clause-plain c =
    let found = c.in_ok-micros in
    (cast_clock (slice_range c.args.bytes.now c.args.from c.in_ok-end.end) found.micros found.ensures.value).1
