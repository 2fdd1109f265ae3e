use Rattle.std.proofs.Common.{◌≡◌, ◌<◌, ◌≤◌, ◌*◌, ◌+◌, ◌-◌, ℕ, Bool, false, List, drop, get_or, length, sym, ap, ◌∙◌, arith}
use Rattle.std.specs.Int.{from_bool}
use Rattle.std.proofs.lemmas.Option.{slice_get-get_or}
use lib.Lanes.{mask_l}
use Rattle.csv_sniffer.proofs.ZeroLaws.{bits_fit, bits_on}
use Rattle.csv_sniffer.proofs.zero_columns.bits_of.Goals as goal

-- the bits with one flag more
more : (flags : List Bool) (place bits : ℕ) → 0 < place → place ≤ length flags → bits ≡ mask_l (drop place flags) →
    2 * bits + from_bool (get_or flags (place - 1) false) ≡ mask_l (drop (place - 1) flags)
more flags place bits some within is =
    let next : place - 1 + 1 ≡ place = omega (arith, some) in
    (λ i. 2 * (is ∙ ap (λ n. mask_l (drop n flags)) (sym next)) i + from_bool (get_or flags (place - 1) false))
    ∙ bits_on flags (place - 1) (get_or flags (place - 1) false) (slice_get-get_or flags (place - 1) false (omega (arith, some, within)))

pub overflow_mul-bits : goal.overflow_mul-bits
overflow_mul-bits c =
    let flags = c.args.flags.now in
    let place = c.loop-place.place in
    omega (arith, more flags place c.loop-place.bits c.loop-place-test.true c.loop-place.invariant.within c.loop-place.invariant.bits, bits_fit flags (place - 1) c.requires.few)

pub overflow_add-bits : goal.overflow_add-bits
overflow_add-bits c =
    let flags = c.args.flags.now in
    let place = c.loop-place.place in
    let one : c.from.result ≡ from_bool (get_or flags (place - 1) false) = c.from.ensures in
    omega (arith, one, more flags place c.loop-place.bits c.loop-place-test.true c.loop-place.invariant.within c.loop-place.invariant.bits, bits_fit flags (place - 1) c.requires.few)

pub loop-place-preserved : goal.loop-place-preserved
loop-place-preserved c =
    let flags = c.args.flags.now in
    let place = c.loop-place.place in
    let one : c.from.result ≡ from_bool (get_or flags (place - 1) false) = c.from.ensures in record {
      within = omega (arith, c.loop-place.invariant.within);
      bits = ap (λ n. 2 * c.loop-place.bits + n) one ∙ more flags place c.loop-place.bits c.loop-place-test.true c.loop-place.invariant.within c.loop-place.invariant.bits;
    }
