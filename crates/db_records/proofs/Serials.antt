-- The types of numbers and their sizes, as tables have them.
use Rattle.std.proofs.Common.{◌≡◌, ℕ, zero, suc, ◌+◌, ◌-◌, ◌*◌, ◌/◌, ◌^◌, ◌<◌, ◌≤◌, [], ◌∷◌, refl, arith, inl, inr}
use Rattle.std.specs.Prelude.{slice_index_or}
use lib.Count.{count_leading_zeros}
use Rattle.std.proofs.lemmas.Bool.{cases_lt}
use Rattle.std.proofs.lemmas.Bool.Decides.{nat_tests}
use Rattle.std.proofs.lemmas.Nat.{leading_length}
use Rattle.std.proofs.Math.Nat.{pow-le-pow_right}
use Rattle.sqlite_record.specs.Serial.{serial_size, width_of}

pub size_at : (serial : ℕ) → serial < 10 → slice_index_or {A = ℕ} (0 ∷ 1 ∷ 2 ∷ 3 ∷ 4 ∷ 6 ∷ 8 ∷ 8 ∷ 0 ∷ 0 ∷ []) serial 0 ≡ serial_size serial
unfolding serial_size
size_at zero h = refl
size_at (suc zero) h = refl
size_at (suc (suc zero)) h = refl
size_at (suc (suc (suc zero))) h = refl
size_at (suc (suc (suc (suc zero)))) h = refl
size_at (suc (suc (suc (suc (suc zero))))) h = refl
size_at (suc (suc (suc (suc (suc (suc zero)))))) h = refl
size_at (suc (suc (suc (suc (suc (suc (suc zero))))))) h = refl
size_at (suc (suc (suc (suc (suc (suc (suc (suc zero)))))))) h = refl
size_at (suc (suc (suc (suc (suc (suc (suc (suc (suc zero))))))))) h = refl
size_at (suc (suc (suc (suc (suc (suc (suc (suc (suc (suc n)))))))))) h = absurd (let no : ⊥ = omega (arith, h) in no)

-- a number of steps that takes so many bytes behind the first
pub serial_at : (r n : ℕ) → r ≤ 7 → n < 2 ^ (8 * r + 7) → 2 ^ (8 * r) ≤ 2 * n + 1 → slice_index_or {A = ℕ} (1 ∷ 2 ∷ 3 ∷ 4 ∷ 5 ∷ 5 ∷ 6 ∷ 6 ∷ []) r 0 ≡ width_of n
serial_at zero n h below reached = grind (arith, nat_tests, below)
serial_at (suc zero) n h below reached = grind (arith, nat_tests, below, reached)
serial_at (suc (suc zero)) n h below reached = grind (arith, nat_tests, below, reached)
serial_at (suc (suc (suc zero))) n h below reached = grind (arith, nat_tests, below, reached)
serial_at (suc (suc (suc (suc zero)))) n h below reached = grind (arith, nat_tests, below, reached)
serial_at (suc (suc (suc (suc (suc zero))))) n h below reached = grind (arith, nat_tests, below, reached)
serial_at (suc (suc (suc (suc (suc (suc zero)))))) n h below reached = grind (arith, nat_tests, below, reached)
serial_at (suc (suc (suc (suc (suc (suc (suc zero))))))) n h below reached = grind (arith, nat_tests, below, reached)
serial_at (suc (suc (suc (suc (suc (suc (suc (suc r)))))))) n h below reached = absurd (let no : ⊥ = omega (arith, h) in no)

-- how many bytes behind the first so many steps take, by the zeros in front of them
pub behind_below : (n : ℕ) → n < 2 ^ 63 → n < 2 ^ (8 * ((64 - count_leading_zeros 64 n) / 8) + 7)
behind_below n h =
    let l = leading_length 64 n (omega (arith, h)) in
    let m : ℕ = l.0 in
    let k : ℕ = (64 - count_leading_zeros 64 n) / 8 in
    let more = pow-le-pow_right {n = 2} (omega arith) {i = m} {j = 8 * k + 7} (omega (arith, l.1)) in
    omega (arith, l.2, more)

pub behind_reached : (n : ℕ) → n < 2 ^ 63 → 2 ^ (8 * ((64 - count_leading_zeros 64 n) / 8)) ≤ 2 * n + 1
behind_reached n h =
    let l = leading_length 64 n (omega (arith, h)) in
    let m : ℕ = l.0 in
    let k : ℕ = (64 - count_leading_zeros 64 n) / 8 in
    let less = pow-le-pow_right {n = 2} (omega arith) {i = 8 * k} {j = m} (omega (arith, l.1)) in
    omega (arith, l.3, less)

pub behind_most : (n : ℕ) → n < 2 ^ 63 → (64 - count_leading_zeros 64 n) / 8 ≤ 7
behind_most n h =
    let l = leading_length 64 n (omega (arith, h)) in
    let m : ℕ = l.0 in
    elim (cases_lt m 64) [
      | inl few ↦ omega (arith, few, l.1)
      | inr many ↦ (let more = pow-le-pow_right {n = 2} (omega arith) {i = 64} {j = m} (omega (arith, many)) in absurd (let no : ⊥ = omega (arith, more, l.3, h) in no))
    ]
