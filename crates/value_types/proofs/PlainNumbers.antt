-- A text of one digit to eighteen digits spells a number of 64 bits.
use Rattle.std.proofs.Common.{◌≡◌, ℕ, suc, ◌-◌, ◌*◌, ◌^◌, ◌<◌, ◌≤◌, true, List, [], ◌∷◌, length, Some, None, pos, ◌∙◌, ap, arith}
use Rattle.std.specs.Prelude.{if◌then◌else◌, nat_le, option_and_then}
use Rattle.std.specs.Option.{is_some, option_map}
use Rattle.std.specs.List.{list_all}
use Rattle.std.specs.Char.{is_ascii_digit}
use Rattle.std.proofs.lemmas.Bool.{and_parts, leb-true, lt-ltb}
use Rattle.std.proofs.Math.Nat.{mul-le-mul_left, pow-le-pow_right, pow-suc}
use Rattle.value_types.specs.declared.types.ColumnType.TheVariants as types
use Rattle.value_types.specs.declared.types.Value.TheVariants as values
use Rattle.value_types.specs.Digits.{decimal_value}
use Rattle.value_types.specs.Cast.{trimmed, bigint, bigint_of}
use Rattle.value_types.specs.OfType.{is_of_type}
use Rattle.value_types.proofs.IntTexts.{integer_of-digits, trimmed-digits}
use Rattle.value_types.specs.KeptTypes.{is_plain_number}

-- all bytes are digits
abbrev AreDigits : List ℕ → Type 0
AreDigits ds = list_all is_ascii_digit ds ≡ true

digit_high : (b : ℕ) → is_ascii_digit b ≡ true → b ≤ 57
digit_high b h = leb-true b 57 (and_parts _ _ h).1

-- the number of some digits is below the power of ten with so many zeros
decimal_below : (ds : List ℕ) → AreDigits ds → decimal_value ds < 10 ^ length ds
decimal_below [] h = omega arith
decimal_below (d ∷ ds) h =
    let parts : (is_ascii_digit d ≡ true) × AreDigits ds = and_parts _ _ h in
    let power : ℕ = 10 ^ length ds in
    let digit : ℕ = d - 48 in
    let high : d ≤ 57 = digit_high d parts.0 in
    let small : digit ≤ 9 = omega (arith, high) in
    let most : power * digit ≤ power * 9 = mul-le-mul_left power small in
    let behind : decimal_value ds < power = decimal_below ds parts.1 in
    let next : 10 ^ suc (length ds) ≡ power * 10 = pow-suc 10 (length ds) in
    omega (arith, most, behind, next)

bigint_of-digits : (ds : List ℕ) → AreDigits ds → 0 < length ds → length ds ≤ 18 → bigint_of (trimmed ds) ≡ Some (pos (decimal_value ds))
bigint_of-digits ds h some few =
    let n : ℕ = decimal_value ds in
    let below : n < 1_000_000_000_000_000_000 = omega (arith, decimal_below ds h, pow-le-pow_right {n = 10} (omega arith) few) in
    let fits : n < 2 ^ 63 = omega (arith, below) in
    ap bigint_of (trimmed-digits ds h)
    ∙ ap (option_and_then bigint) (integer_of-digits ds h some)
    ∙ ap (λ t. if t then Some (pos n) else None) (lt-ltb n (2 ^ 63) fits)

pub plain_is_bigint : (text : List ℕ) → is_plain_number text ≡ true → is_of_type text types.Bigint ≡ true
plain_is_bigint text h =
    let digits = and_parts _ _ h in
    let long = and_parts (nat_le 1 (length text)) (nat_le (length text) 18) digits.0 in
    let some : 1 ≤ length text = leb-true 1 (length text) long.0 in
    let few : length text ≤ 18 = leb-true (length text) 18 long.1 in
    ap (λ o. is_some (option_map values.Int o)) (bigint_of-digits text digits.1 (omega (arith, some)) few)
