use Rattle.std.proofs.Common.{◌<◌, List, ℕ, Some, length, sym, ap, ◌∙◌, arith, rules, w64}
use Rattle.std.specs.Prelude.{slice_range}
use Rattle.std.proofs.lemmas.Int.{to_z-of_z}
use Rattle.value_types.proofs.PlainTexts.{cast_stamp}
use Rattle.value_types.proofs.SlicesInBytes.{length-slice}
use Rattle.value_types.proofs.fronts.values.stamp_front.Goals as goal

pub returns-clause-value : goal.returns-clause-value
returns-clause-value c =
    let found = c.in_ok-micros in
    let text : List ℕ = slice_range c.args.bytes.now c.args.from c.in_ok-end.end in
    let long : 10 < length text = omega (arith, c.in_ok-end.ensures, length-slice c.args.bytes.now c.args.from c.in_ok-end.end (omega (arith, c.in_ok-end.ensures))) in
    (cast_stamp text found.micros long found.ensures).0 ∙ sym (ap Some (to_z-of_z w64 found.micros (search rules)))

pub returns-clause-plain : goal.returns-clause-plain
returns-clause-plain c =
    let found = c.in_ok-micros in
    let text : List ℕ = slice_range c.args.bytes.now c.args.from c.in_ok-end.end in
    let long : 10 < length text = omega (arith, c.in_ok-end.ensures, length-slice c.args.bytes.now c.args.from c.in_ok-end.end (omega (arith, c.in_ok-end.ensures))) in
    (cast_stamp text found.micros long found.ensures).1
