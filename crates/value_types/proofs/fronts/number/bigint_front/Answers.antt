use Rattle.std.proofs.Common.{◌≡◌, ◌+◌, sym, ap, ◌∙◌, arith, Some, List, ℕ, rules, w64, ◌∷◌}
use Rattle.std.specs.Prelude.{slice_range}
use Rattle.std.specs.List.{list_all}
use Rattle.std.proofs.lemmas.Int.{to_z_pos, to_z-of_z}
use Rattle.value_types.specs.Cast.{bigint_of, trimmed}
use Rattle.value_types.specs.Digits.{is_numeral}
use Rattle.value_types.proofs.IntTexts.{bigint_of-natural, bigint_of-minus_natural, numerals-natural}
use Rattle.value_types.proofs.SlicesInBytes.{slice_first}
use Rattle.value_types.proofs.fronts.number.bigint_front.Goals as goal

pub returns-then-bytes-from-eq45-clause-value : goal.returns-then-bytes-from-eq45-clause-value
returns-then-bytes-from-eq45-clause-value c =
    let bytes : List ℕ = c.args.bytes.now in
    let front = c.in_ok-front.front in
    let found = c.in_ok-front.ensures in
    let text : slice_range bytes c.args.from front.end ≡ 45 ∷ slice_range bytes (c.args.from + 1) front.end =
    slice_first bytes c.args.from front.end 45 c.if-bytes-from-eq45.true (omega (arith, found.within.0)) (omega (arith, found.within.1)) in
    ap (λ xs. bigint_of (trimmed xs)) text
    ∙ bigint_of-minus_natural (slice_range bytes (c.args.from + 1) front.end) front.number found.value.0 found.value.1
    ∙ sym (ap Some (to_z-of_z w64 c.negated.result (search rules) ∙ c.negated.ensures))

pub returns-then-bytes-from-eq45-clause-plain : goal.returns-then-bytes-from-eq45-clause-plain
returns-then-bytes-from-eq45-clause-plain c =
    let bytes : List ℕ = c.args.bytes.now in
    let front = c.in_ok-front.front in
    let found = c.in_ok-front.ensures in
    ap (list_all is_numeral) (slice_first bytes c.args.from front.end 45 c.if-bytes-from-eq45.true (omega (arith, found.within.0)) (omega (arith, found.within.1)))
    ∙ numerals-natural (slice_range bytes (c.args.from + 1) front.end) front.number found.value.0

pub returns-clause-value : goal.returns-clause-value
returns-clause-value c =
    let front = c.in_ok-front-2.front in
    let found = c.in_ok-front-2.ensures.value in
    bigint_of-natural (slice_range c.args.bytes.now c.args.from front.end) front.number found.0 found.1
    ∙ sym (ap Some (to_z_pos w64 front.number found.1))

pub returns-clause-plain : goal.returns-clause-plain
returns-clause-plain c =
    let front = c.in_ok-front-2.front in
    numerals-natural (slice_range c.args.bytes.now c.args.from front.end) front.number c.in_ok-front-2.ensures.value.0
