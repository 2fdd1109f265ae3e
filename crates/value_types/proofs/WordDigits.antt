-- What a word of digits' worths spells, and how it is known that it is one.
use Rattle.std.proofs.Common.{◌≡◌, ℕ, zero, suc, ◌+◌, ◌*◌, ◌/◌, ◌<◌, Bool, true, false, ◌&&◌, T, eqb, ltb, bit_and, bit_or, refl, sym, ap, ◌∙◌, arith, List, [], ◌∷◌, length, map, ltb-true}
use Rattle.std.specs.Prelude.{nat_eq}
use Rattle.std.specs.List.{list_all}
use Rattle.std.specs.Simd.Lanes.{Each1, number_l}
use Rattle.std.proofs.lemmas.Bool.{and_parts, ne_eqb}
use Rattle.std.proofs.lemmas.Nat.{and_mask, and_le_r}
use Rattle.std.proofs.lemmas.List.{map-id}
use Rattle.std.proofs.lemmas.Simd.{Each1-weaker}
use lib.Ieee.Fits.{and_l, and_r}
use mathlib.Core.Bool.{beq}
use Rattle.value_types.specs.Words.{IsWord, is_worth_of_digit, spelled, word_of}
use Rattle.value_types.proofs.WordLanes.{eight, every_below, beq_is, first_bytes, first_pairs, and_lanes, or_lanes, sum_lanes}

-- ---- eight digits

abbrev pairs_of : ℕ → ℕ
pairs_of w = bit_and w 0x00FF00FF00FF00FF * 10 + bit_and (w / 256) 0x00FF00FF00FF00FF

abbrev fours_of : ℕ → ℕ
fours_of p = bit_and p 0x0000FFFF0000FFFF * 100 + bit_and (p / 65536) 0x0000FFFF0000FFFF

-- as the code sums a word
abbrev pub joined : ℕ → ℕ
joined w = bit_and (fours_of (pairs_of w)) 0xFFFFFFFF * 10000 + fours_of (pairs_of w) / 4294967296

module _ (a b c d e f g h : ℕ) (A : a < 10) (B : b < 10) (C : c < 10) (D : d < 10) (E : e < 10) (F : f < 10) (G : g < 10) (H : h < 10) where
  by_pairs : pairs_of (word_of (a ∷ b ∷ c ∷ d ∷ e ∷ f ∷ g ∷ h ∷ [])) ≡ number_l 65536 ((a * 10 + b) ∷ (c * 10 + d) ∷ (e * 10 + f) ∷ (g * 10 + h) ∷ [])
  by_pairs =
      let behind : word_of (a ∷ b ∷ c ∷ d ∷ e ∷ f ∷ g ∷ h ∷ []) / 256 ≡ word_of (b ∷ c ∷ d ∷ e ∷ f ∷ g ∷ h ∷ 0 ∷ []) = omega arith in
      let tens = first_bytes a b c d e f g h (omega arith) (omega arith) (omega arith) (omega arith) (omega arith) (omega arith) (omega arith) (omega arith) in
      let ones = ap (λ n. bit_and n 0x00FF00FF00FF00FF) behind ∙ first_bytes b c d e f g h 0 (omega arith) (omega arith) (omega arith) (omega arith) (omega arith) (omega arith) (omega arith) (omega arith) in
      omega (arith, tens, ones)

module _ (p q r s : ℕ) (P : p < 100) (Q : q < 100) (R : r < 100) (S : s < 100) where
  by_fours : fours_of (number_l 65536 (p ∷ q ∷ r ∷ s ∷ [])) ≡ number_l 4294967296 ((p * 100 + q) ∷ (r * 100 + s) ∷ [])
  by_fours =
      let behind : number_l 65536 (p ∷ q ∷ r ∷ s ∷ []) / 65536 ≡ number_l 65536 (q ∷ r ∷ s ∷ 0 ∷ []) = omega arith in
      let hundreds = first_pairs p q r s (omega arith) (omega arith) (omega arith) (omega arith) in
      let ones = ap (λ n. bit_and n 0x0000FFFF0000FFFF) behind ∙ first_pairs q r s 0 (omega arith) (omega arith) (omega arith) (omega arith) in
      omega (arith, hundreds, ones)

by_eight : (t u : ℕ) → t < 10000 → u < 10000 → bit_and (number_l 4294967296 (t ∷ u ∷ [])) 0xFFFFFFFF * 10000 + number_l 4294967296 (t ∷ u ∷ []) / 4294967296 ≡ t * 10000 + u
by_eight t u ht hu = let low = and_mask (number_l 4294967296 (t ∷ u ∷ [])) 32 in omega (arith, low)

digits_below : (ws : List ℕ) → list_all is_worth_of_digit ws ≡ true → Each1 (λ d. d < 10) ws
digits_below [] h = tt
digits_below (w ∷ ws) h = let parts = and_parts (is_worth_of_digit w) (list_all is_worth_of_digit ws) h in (ltb-true w 10 parts.0, digits_below ws parts.1)

joined_eight : (a b c d e f g h : ℕ) → Each1 (λ d. d < 10) (a ∷ b ∷ c ∷ d ∷ e ∷ f ∷ g ∷ h ∷ []) →
    joined (word_of (a ∷ b ∷ c ∷ d ∷ e ∷ f ∷ g ∷ h ∷ [])) ≡ spelled (a ∷ b ∷ c ∷ d ∷ e ∷ f ∷ g ∷ h ∷ [])
joined_eight a b c d e f g h each =
    let A : a < 10 = each.0 in
    let B : b < 10 = each.1.0 in
    let C : c < 10 = each.1.1.0 in
    let D : d < 10 = each.1.1.1.0 in
    let E : e < 10 = each.1.1.1.1.0 in
    let F : f < 10 = each.1.1.1.1.1.0 in
    let G : g < 10 = each.1.1.1.1.1.1.0 in
    let H : h < 10 = each.1.1.1.1.1.1.1.0 in
    let pairs = by_pairs a b c d e f g h A B C D E F G H in
    let fours = ap fours_of pairs ∙ by_fours (a * 10 + b) (c * 10 + d) (e * 10 + f) (g * 10 + h) (omega arith) (omega arith) (omega arith) (omega arith) in
    ap (λ n. bit_and n 0xFFFFFFFF * 10000 + n / 4294967296) fours
    ∙ by_eight ((a * 10 + b) * 100 + (c * 10 + d)) ((e * 10 + f) * 100 + (g * 10 + h)) (omega arith) (omega arith)
    ∙ omega arith

pub joined_spells : (ws : List ℕ) → length ws ≡ 8 → list_all is_worth_of_digit ws ≡ true → joined (word_of ws) ≡ spelled ws
joined_spells ws long digits =
    eight (λ ws. Each1 (λ d. d < 10) ws → joined (word_of ws) ≡ spelled ws) joined_eight ws long (digits_below ws digits)

spelled_eight : (a b c d e f g h : ℕ) → Each1 (λ d. d < 10) (a ∷ b ∷ c ∷ d ∷ e ∷ f ∷ g ∷ h ∷ []) → spelled (a ∷ b ∷ c ∷ d ∷ e ∷ f ∷ g ∷ h ∷ []) < 100000000
spelled_eight a b c d e f g h each =
    let A : a < 10 = each.0 in
    let B : b < 10 = each.1.0 in
    let C : c < 10 = each.1.1.0 in
    let D : d < 10 = each.1.1.1.0 in
    let E : e < 10 = each.1.1.1.1.0 in
    let F : f < 10 = each.1.1.1.1.1.0 in
    let G : g < 10 = each.1.1.1.1.1.1.0 in
    let H : h < 10 = each.1.1.1.1.1.1.1.0 in
    omega arith

pub spelled_below : (ws : List ℕ) → length ws ≡ 8 → list_all is_worth_of_digit ws ≡ true → spelled ws < 100000000
spelled_below ws long digits =
    eight (λ ws. Each1 (λ d. d < 10) ws → spelled ws < 100000000) spelled_eight ws long (digits_below ws digits)

-- ---- whether they are digits

abbrev flag : ℕ → ℕ
flag b = bit_and (bit_or (bit_and b 0x0F + 0x06) b) 0xF0

-- as the code tests a word
abbrev pub flagged : ℕ → Bool
flagged w = nat_eq (bit_and (bit_or (bit_and w 0x0F0F0F0F0F0F0F0F + 0x0606060606060606) w) 0xF0F0F0F0F0F0F0F0) 0

pub t_true : (t : Bool) → T t → t ≡ true
t_true true h = refl
t_true false h = absurd h

abbrev flag_tells : ℕ → Bool
flag_tells b = beq (eqb (flag b) 0) (ltb b 10) && ltb (bit_or (bit_and b 0x0F + 0x06) b) 256

flag_below : (b : ℕ) → b < 256 → T (flag_tells b)
flag_below b B = every_below flag_tells 256 tt b B

-- the flag of a byte is 0 just where it is less than ten
pub flag_is : (b : ℕ) → b < 256 → eqb (flag b) 0 ≡ ltb b 10
flag_is b B = beq_is (eqb (flag b) 0) (ltb b 10) (and_l (beq (eqb (flag b) 0) (ltb b 10)) (ltb (bit_or (bit_and b 0x0F + 0x06) b) 256) (flag_below b B))

pub joint_below : (b : ℕ) → b < 256 → bit_or (bit_and b 0x0F + 0x06) b < 256
joint_below b B =
    ltb-true (bit_or (bit_and b 0x0F + 0x06) b) 256
    (t_true (ltb (bit_or (bit_and b 0x0F + 0x06) b) 256) (and_r (beq (eqb (flag b) 0) (ltb b 10)) (ltb (bit_or (bit_and b 0x0F + 0x06) b) 256) (flag_below b B)))

flags_of : (ws : List ℕ) → IsWord ws → bit_and (bit_or (bit_and (word_of ws) 0x0F0F0F0F0F0F0F0F + 0x0606060606060606) (word_of ws)) 0xF0F0F0F0F0F0F0F0 ≡ word_of (map flag ws)
flags_of ws is =
    let same : map (λ x. x) ws ≡ ws = map-id ws in
    let lower : number_l 256 (map (λ (x : ℕ). 0x0F) ws) ≡ 0x0F0F0F0F0F0F0F0F = eight (λ ws. number_l 256 (map (λ (x : ℕ). 0x0F) ws) ≡ 0x0F0F0F0F0F0F0F0F) (λ a b c d e f g h. refl) ws is.0 in
    let sixes : number_l 256 (map (λ (x : ℕ). 0x06) ws) ≡ 0x0606060606060606 = eight (λ ws. number_l 256 (map (λ (x : ℕ). 0x06) ws) ≡ 0x0606060606060606) (λ a b c d e f g h. refl) ws is.0 in
    let upper : number_l 256 (map (λ (x : ℕ). 0xF0) ws) ≡ 0xF0F0F0F0F0F0F0F0 = eight (λ ws. number_l 256 (map (λ (x : ℕ). 0xF0) ws) ≡ 0xF0F0F0F0F0F0F0F0) (λ a b c d e f g h. refl) ws is.0 in
    let halves : bit_and (word_of ws) 0x0F0F0F0F0F0F0F0F ≡ number_l 256 (map (λ b. bit_and b 0x0F) ws) =
    sym (λ i. bit_and (number_l 256 (same i)) (lower i)) ∙ and_lanes (λ b. b) (λ b. 0x0F) ws (Each1-weaker (λ b. b < 256) (λ b. (b < 256) × (0x0F < 256)) (λ b B. (B, omega arith)) ws is.1) in
    let sums : bit_and (word_of ws) 0x0F0F0F0F0F0F0F0F + 0x0606060606060606 ≡ number_l 256 (map (λ b. bit_and b 0x0F + 0x06) ws) =
    (λ i. halves i + sym sixes i) ∙ sum_lanes (λ b. bit_and b 0x0F) (λ b. 0x06) ws in
    let small : (b : ℕ) → bit_and b 0x0F + 0x06 < 256 = λ b. omega (arith, and_le_r b 0x0F) in
    let joins : bit_or (bit_and (word_of ws) 0x0F0F0F0F0F0F0F0F + 0x0606060606060606) (word_of ws) ≡ number_l 256 (map (λ b. bit_or (bit_and b 0x0F + 0x06) b) ws) =
    (λ i. bit_or (sums i) (number_l 256 (sym same i)))
    ∙ or_lanes (λ b. bit_and b 0x0F + 0x06) (λ b. b) ws (Each1-weaker (λ b. b < 256) (λ b. (bit_and b 0x0F + 0x06 < 256) × (b < 256)) (λ b B. (small b, B)) ws is.1) in
    (λ i. bit_and (joins i) (sym upper i))
    ∙ and_lanes (λ b. bit_or (bit_and b 0x0F + 0x06) b) (λ b. 0xF0) ws
    (Each1-weaker (λ b. b < 256) (λ b. (bit_or (bit_and b 0x0F + 0x06) b < 256) × (0xF0 < 256)) (λ b B. (joint_below b B, omega arith)) ws is.1)

pub zero_lane : (x n : ℕ) → eqb (x + 256 * n) 0 ≡ (eqb x 0 && eqb n 0)
zero_lane zero zero = refl
zero_lane zero (suc n) = ne_eqb (0 + 256 * suc n) 0 (omega arith) ∙ sym (ne_eqb (suc n) 0 (omega arith))
zero_lane (suc x) n = ne_eqb (suc x + 256 * n) 0 (omega arith) ∙ sym (ap (λ t. t && eqb n 0) (ne_eqb (suc x) 0 (omega arith)))

no_flags : (ws : List ℕ) → Each1 (λ b. b < 256) ws → eqb (number_l 256 (map flag ws)) 0 ≡ list_all is_worth_of_digit ws
no_flags [] each = refl
no_flags (w ∷ ws) each =
    zero_lane (flag w) (number_l 256 (map flag ws))
    ∙ (λ i. flag_is w each.0 i && no_flags ws each.1 i)

pub flagged_digits : (ws : List ℕ) → IsWord ws → flagged (word_of ws) ≡ list_all is_worth_of_digit ws
flagged_digits ws is = ap (λ n. eqb n 0) (flags_of ws is) ∙ no_flags ws is.1
