-- Numbers as what they have over the least one.
use Rattle.std.proofs.Common.{◌≡◌, ℕ, ℤ, true, false, ◌+◌, ◌<◌, ◌≤◌, List, [], ◌∷◌, ◌++◌, Some, map, take, pos, negsuc, ◌+ℤ◌, ◌-ℤ◌, ◌≤ℤ◌, ◌<ℤ◌, sym, ap, ◌∙◌, subst, arith, to_z, of_z, to_z-of_z, w64, FitsSigned}
use Rattle.std.specs.Prelude.{slice_get, All}
use Rattle.std.specs.Int.{saturate_signed}
use Rattle.std.proofs.lemmas.Int.{ints}
use Rattle.std.proofs.lemmas.List.{map_push}
use Rattle.std.proofs.lemmas.List.Elements.{All-weaker}
use Rattle.jiff_core.proofs.SignedLemmas.{signed_arith}
use lib.Signed.{mag, lt_z}
use Rattle.value_types.specs.declared.extent.Extent.{Extent}
use Rattle.value_types.specs.Packed.{number_over, IsWithin}
use Rattle.value_types.proofs.CopySteps.{take-at}

in_range : (z : ℤ) → mag z < 9223372036854775808 → saturate_signed w64 z ≡ z
in_range (pos n) small = ap pos (omega (arith, small))
in_range (negsuc n) small = ap negsuc (omega (arith, small))

-- the least one and what a number has over it make the number
pub there_again : (l least n : ℤ) (over : ℕ) → l ≡ least → mag n < 9223372036854775808 → pos over ≡ n -ℤ least → number_over l over ≡ n
there_again l least n over is_l small is =
    let sum : least +ℤ pos over ≡ n = omega (arith, ints, is) in
    ap (λ (z : ℤ). number_over z over) is_l ∙ ap (saturate_signed w64) sum ∙ in_range n small

small_fits : (d : ℤ) (limit : ℕ) → limit ≤ 4294967296 → pos 0 ≤ℤ d → d <ℤ pos limit → FitsSigned w64 d
small_fits (pos k) limit small low high = let below : k < limit = omega (arith, ints, high) in omega (arith, signed_arith, below, small)
small_fits (negsuc k) limit small low high = absurd (let no : ⊥ = omega (arith, ints, low) in no)

-- what a number has over the least one, where both are passed as the calls pass them
module _ (least n : ℤ) (limit : ℕ) (small : limit ≤ 4294967296) (low : least ≤ℤ n) (high : n <ℤ (least +ℤ pos limit)) (l m : ℤ) (is_l : l ≡ least) (is_n : m ≡ n) where
  over_low : pos 0 ≤ℤ (n -ℤ least)
  over_low = omega (arith, ints, low)

  over_high : (n -ℤ least) <ℤ pos limit
  over_high = omega (arith, ints, high)

  same : m -ℤ l ≡ n -ℤ least
  same = λ i. is_n i -ℤ is_l i

  pub offset_fits : FitsSigned w64 (m -ℤ l)
  offset_fits = subst (λ (z : ℤ). FitsSigned w64 z) (sym same) (small_fits (n -ℤ least) limit small over_low over_high)

  pub offset_kept : to_z w64 (of_z w64 (m -ℤ l)) ≡ n -ℤ least
  offset_kept = to_z-of_z offset_fits ∙ same

  pub offset_low : pos 0 ≤ℤ to_z w64 (of_z w64 (m -ℤ l))
  offset_low = subst (λ (z : ℤ). pos 0 ≤ℤ z) (sym offset_kept) over_low

  pub offset_high : to_z w64 (of_z w64 (m -ℤ l)) <ℤ pos limit
  offset_high = subst (λ (z : ℤ). z <ℤ pos limit) (sym offset_kept) over_high

-- one number more
pub numbers_more : {A : Type 0} (f : A → ℤ) (numbers : List ℤ) (place : ℕ) (xs ys : List A) (x : A) (n : ℤ) → map f xs ≡ take place numbers → ys ≡ xs ++ x ∷ [] → f x ≡ n → slice_get numbers place ≡ Some n
    → map f ys ≡ take (place + 1) numbers
numbers_more f numbers place xs ys x n so_far pushed is at =
    ap (map f) pushed ∙ map_push f xs x ∙ (λ i. so_far i ++ is i ∷ []) ∙ sym (take-at numbers place n at)

-- ---- how far numbers lie apart

apart_below : (z : ℤ) (limit : ℕ) → limit ≤ 4294967296 → saturate_signed w64 z <ℤ pos limit → z <ℤ pos limit
apart_below (pos n) limit small below = omega (arith, ints, below, small)
apart_below (negsuc n) limit small below = omega (arith, ints)

apart_from : (z : ℤ) → pos 4294967296 ≤ℤ saturate_signed w64 z → pos 4294967296 ≤ℤ z
apart_from (pos n) from = omega (arith, ints, from)
apart_from (negsuc n) from = absurd (let no : ⊥ = omega (arith, ints, from) in no)

below : (a b : ℤ) → lt_z a b ≡ true → a <ℤ b
below a b test = grind (arith, ints, test)

not_below : (a b : ℤ) → lt_z a b ≡ false → b ≤ℤ a
not_below a b test = grind (arith, ints, test)

-- the bounds of an extent and what lies between them, as the calls pass them
module _ (extent : Extent) (l g span s : ℤ) (is_l : l ≡ extent.least) (is_g : g ≡ extent.greatest) (is_s : s ≡ span) (is : span ≡ saturate_signed w64 (g -ℤ l)) where
  between : s ≡ saturate_signed w64 (extent.greatest -ℤ extent.least)
  between = is_s ∙ is ∙ (λ i. saturate_signed w64 (is_g i -ℤ is_l i))

  pub all_low : (numbers : List ℤ) → All (IsWithin extent) numbers → All (λ n. l ≤ℤ n) numbers
  all_low numbers all = subst (λ (z : ℤ). All (λ n. z ≤ℤ n) numbers) (sym is_l) (All-weaker (IsWithin extent) (λ n. extent.least ≤ℤ n) (λ n w. w.0) numbers all)

  pub all_high : (numbers : List ℤ) (limit : ℕ) → limit ≤ 4294967296 → All (IsWithin extent) numbers → lt_z s (pos limit) ≡ true → All (λ n. n <ℤ (l +ℤ pos limit)) numbers
  all_high numbers limit small all test =
      let few : (extent.greatest -ℤ extent.least) <ℤ pos limit = apart_below (extent.greatest -ℤ extent.least) limit small (subst (λ (z : ℤ). z <ℤ pos limit) between (below s (pos limit) test)) in
      subst (λ (z : ℤ). All (λ n. n <ℤ (z +ℤ pos limit)) numbers) (sym is_l) (All-weaker (IsWithin extent) (λ n. n <ℤ (extent.least +ℤ pos limit)) (λ n w. omega (arith, ints, w.1, few)) numbers all)

  pub far_apart : lt_z s (pos 4294967296) ≡ false → pos 4294967296 ≤ℤ (extent.greatest -ℤ extent.least)
  far_apart test = apart_from (extent.greatest -ℤ extent.least) (subst (λ (z : ℤ). pos 4294967296 ≤ℤ z) between (not_below s (pos 4294967296) test))
