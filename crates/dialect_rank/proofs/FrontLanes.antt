-- The bits of the first lanes.
use Rattle.std.proofs.Common.{◌≡◌, ℕ, zero, suc, ◌+◌, ◌*◌, ◌/◌, ◌%◌, ◌^◌, ◌<◌, Bool, true, false, cond, List, [], ◌∷◌, map, take, sym, ◌∙◌, ap, arith, pow_pos}
use Rattle.std.specs.Prelude.{count_by}
use Rattle.std.specs.Int.RustNames.{count_ones}
use Rattle.std.proofs.Math.Nat.{mod-eq_of_lt, mod-lt, pow-suc}
use Rattle.std.proofs.Math.Pow.{pow-lt}
use Rattle.std.proofs.lemmas.Nat.{div-add-mod', mod-mul-add}
use Rattle.std.proofs.lemmas.Simd.{ones-mask_l}
use lib.Lanes.{mask_l}

one_more : (b : Bool) (m p : ℕ) → 0 < p → (cond {A = ℕ} b 1 0 + 2 * m) % (p * 2) ≡ cond {A = ℕ} b 1 0 + 2 * (m % p)
one_more b m p some =
    let low : m % p < p = mod-lt m some in
    ap (λ n. n % (p * 2)) (parts b) ∙ mod-mul-add (m / p) (p * 2) (cond {A = ℕ} b 1 0 + 2 * (m % p)) (small b low) where
      joined : (c q r p : ℕ) → q * p + r ≡ m → c + 2 * m ≡ q * (p * 2) + (c + 2 * r)
      joined c q r p is = ap (λ n. c + 2 * n) (sym is) ∙ (let same : c + 2 * (q * p + r) ≡ q * (p * 2) + (c + 2 * r) = grind arith in same)

      parts : (b : Bool) → cond {A = ℕ} b 1 0 + 2 * m ≡ m / p * (p * 2) + (cond {A = ℕ} b 1 0 + 2 * (m % p))
      parts b = joined (cond {A = ℕ} b 1 0) (m / p) (m % p) p (div-add-mod' m p)

      small : (b : Bool) → m % p < p → cond {A = ℕ} b 1 0 + 2 * (m % p) < p * 2
      small true low = omega (arith, low)
      small false low = omega (arith, low)

none_of : (n : ℕ) → n % 1 ≡ 0
none_of n = omega arith

mask_front : (p : ℕ → Bool) (xs : List ℕ) (k : ℕ) → mask_l (map p xs) % 2 ^ k ≡ mask_l (map p (take k xs))
mask_front p xs zero = none_of (mask_l (map p xs))
mask_front p [] (suc k) = mod-eq_of_lt (pow_pos (suc k))
mask_front p (x ∷ xs) (suc k) =
    ap (λ n. (cond {A = ℕ} (p x) 1 0 + 2 * mask_l (map p xs)) % n) (pow-suc 2 k)
    ∙ one_more (p x) (mask_l (map p xs)) (2 ^ k) (pow_pos k)
    ∙ ap (λ n. cond {A = ℕ} (p x) 1 0 + 2 * n) (mask_front p xs k)

pub ones_front : (p : ℕ → Bool) (xs : List ℕ) (k m : ℕ) → m ≡ mask_l (map p xs) → count_ones (m % 2 ^ k) ≡ count_by p (take k xs)
ones_front p xs k m is = ap (λ n. count_ones (n % 2 ^ k)) is ∙ ap count_ones (mask_front p xs k) ∙ ones-mask_l p (take k xs)

pub power_fits : (k : ℕ) → k < 64 → 1 * 2 ^ k % 2 ^ 64 ≡ 2 ^ k
power_fits k few =
    let one : 1 * 2 ^ k ≡ 2 ^ k = omega arith in
    ap (λ n. n % 2 ^ 64) one ∙ mod-eq_of_lt (pow-lt {i = k} {j = 64} few)
