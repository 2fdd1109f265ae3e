-- What eight bytes that follow a picture spell two by two, and where these numbers lie.
use Rattle.std.proofs.Common.{◌≡◌, ℕ, ◌+◌, ◌*◌, ◌/◌, ◌%◌, ◌^◌, ◌<◌, Bool, true, false, ◌&&◌, T, eqb, ltb, cond, bit_and, bit_or, bit_xor, refl, sym, ap, ◌∙◌, subst, arith, List, [], ◌∷◌, length, map, eqb-true, ltb-true, inl, inr}
use Rattle.std.specs.Prelude.{nat_eq, ◌==◌, if◌then◌else◌}
use Rattle.std.specs.List.{list_all}
use Rattle.std.specs.Char.{is_ascii_digit}
use Rattle.std.specs.Int.Bits.{xor_assoc, xor_self, xor_zero_l, xor_zero_r}
use Rattle.std.specs.Simd.Lanes.{Each1, number_l}
use Rattle.std.proofs.lemmas.Bool.{and_parts, cases_Bool, ne_eqb, eq-eqb, true≢false}
use Rattle.std.proofs.lemmas.List.{length-map}
use Rattle.std.proofs.lemmas.Nat.{and_mask, and_le_r, xor_of_8}
use Rattle.std.proofs.lemmas.Simd.{Each1-weaker}
use lib.Ieee.Fits.{and_l, and_r}
use mathlib.Core.Bool.{beq}
use Rattle.value_types.specs.Digits.{follows_picture}
use Rattle.value_types.specs.Words.{IsPicture, IsWord, carry_of, naught_of, pairs_of, word_of, worth, worths_by}
use Rattle.value_types.proofs.WordDigits.{flag_is, joint_below, t_true, zero_lane}
use Rattle.value_types.proofs.WordLanes.{and_lanes, beq_is, eight, every_below, or_lanes, sum_lanes, xor_lanes}
use Rattle.value_types.proofs.WordTexts.{number-below, worth_digit}

-- ---- pairs of digits

-- as the code reads a word
abbrev pub paired : ℕ → ℕ
paired w = (w * 10 % 2 ^ 64 + w / 256) % 2 ^ 64

paired_eight : (a b c d e f g h : ℕ) → Each1 (λ d. d < 10) (a ∷ b ∷ c ∷ d ∷ e ∷ f ∷ g ∷ h ∷ []) →
    paired (word_of (a ∷ b ∷ c ∷ d ∷ e ∷ f ∷ g ∷ h ∷ [])) ≡ word_of (pairs_of (a ∷ b ∷ c ∷ d ∷ e ∷ f ∷ g ∷ h ∷ []))
paired_eight a b c d e f g h each =
    let A : a < 10 = each.0 in
    let B : b < 10 = each.1.0 in
    let C : c < 10 = each.1.1.0 in
    let D : d < 10 = each.1.1.1.0 in
    let E : e < 10 = each.1.1.1.1.0 in
    let F : f < 10 = each.1.1.1.1.1.0 in
    let G : g < 10 = each.1.1.1.1.1.1.0 in
    let H : h < 10 = each.1.1.1.1.1.1.1.0 in
    let behind : word_of (a ∷ b ∷ c ∷ d ∷ e ∷ f ∷ g ∷ h ∷ []) / 256 ≡ word_of (b ∷ c ∷ d ∷ e ∷ f ∷ g ∷ h ∷ []) = omega arith in
    omega (arith, behind)

paired_spells : (ws : List ℕ) → length ws ≡ 8 → Each1 (λ d. d < 10) ws → paired (word_of ws) ≡ word_of (pairs_of ws)
paired_spells ws long digits = eight (λ ws. Each1 (λ d. d < 10) ws → paired (word_of ws) ≡ word_of (pairs_of ws)) paired_eight ws long digits

-- ---- bytes by a picture: each lane has a byte of the picture, and one of the text

abbrev lane_worth : ℕ × ℕ → ℕ
lane_worth z = bit_xor z.1 (naught_of z.0)

abbrev mark_flag : ℕ → ℕ
mark_flag b = bit_and (bit_or (bit_and b 0x0F + 15) b) 0xF0

abbrev lane_flag : ℕ × ℕ → ℕ
lane_flag z = bit_and (bit_or (bit_and (lane_worth z) 0x0F + carry_of z.0) (lane_worth z)) 0xF0

abbrev lane_follows : ℕ × ℕ → Bool
lane_follows z = if z.0 == 35 then is_ascii_digit z.1 else z.0 == z.1

abbrev IsLane : ℕ × ℕ → Type 0
IsLane z = (z.0 < 256) × (z.1 < 256)

abbrev mark_tells : ℕ → Bool
mark_tells b = beq (eqb (mark_flag b) 0) (eqb b 0) && ltb (bit_or (bit_and b 0x0F + 15) b) 256

mark_tests : (b : ℕ) → b < 256 → T (mark_tells b)
mark_tests b B = every_below mark_tells 256 tt b B

mark_is : (b : ℕ) → b < 256 → eqb (mark_flag b) 0 ≡ eqb b 0
mark_is b B = beq_is (eqb (mark_flag b) 0) (eqb b 0) (and_l (beq (eqb (mark_flag b) 0) (eqb b 0)) (ltb (bit_or (bit_and b 0x0F + 15) b) 256) (mark_tests b B))

mark_joint : (b : ℕ) → b < 256 → bit_or (bit_and b 0x0F + 15) b < 256
mark_joint b B =
    ltb-true (bit_or (bit_and b 0x0F + 15) b) 256
    (t_true (ltb (bit_or (bit_and b 0x0F + 15) b) 256) (and_r (beq (eqb (mark_flag b) 0) (eqb b 0)) (ltb (bit_or (bit_and b 0x0F + 15) b) 256) (mark_tests b B)))

-- two bytes differ in no bit just where they are the same
no_difference : (t p : ℕ) → eqb (bit_xor t p) 0 ≡ eqb p t
no_difference t p = elim (cases_Bool (eqb p t)) [
  | inl same ↦ let is : p ≡ t = eqb-true p t same in ap (λ n. eqb (bit_xor t n) 0) is ∙ ap (λ n. eqb n 0) (xor_self t) ∙ sym same
  | inr other ↦ ne_eqb (bit_xor t p) 0 (λ none. true≢false (sym (eq-eqb p t (sym (back none))) ∙ other)) ∙ sym other
] where
  back : bit_xor t p ≡ 0 → t ≡ p
  back none = sym (xor_zero_r t) ∙ ap (bit_xor t) (sym (xor_self p)) ∙ sym (xor_assoc t p p) ∙ ap (λ n. bit_xor n p) none ∙ xor_zero_l p

naught_low : (z : ℕ × ℕ) → IsLane z → naught_of z.0 < 256
naught_low z is = by_test (z.0 == 35) where
  by_test : (t : Bool) → cond t 48 z.0 < 256
  by_test true = omega arith
  by_test false = is.0

lane_low : (z : ℕ × ℕ) → IsLane z → lane_worth z < 256
lane_low z is = xor_of_8 z.1 (naught_of z.0) is.1 (naught_low z is)

lane_is : (z : ℕ × ℕ) → IsLane z → eqb (lane_flag z) 0 ≡ lane_follows z
lane_is (p, t) is = by_test (p == 35) where
  by_test : (b : Bool) → eqb (bit_and (bit_or (bit_and (bit_xor t (cond b 48 p)) 0x0F + cond b 6 15) (bit_xor t (cond b 48 p))) 0xF0) 0 ≡ cond b (is_ascii_digit t) (p == t)
  by_test true = flag_is (worth t) (xor_of_8 t 48 is.1 (omega arith)) ∙ worth_digit t is.1
  by_test false = mark_is (bit_xor t p) (xor_of_8 t p is.1 is.0) ∙ no_difference t p

lane_joint : (z : ℕ × ℕ) → IsLane z → bit_or (bit_and (lane_worth z) 0x0F + carry_of z.0) (lane_worth z) < 256
lane_joint z is = by_test (z.0 == 35) where
  by_test : (b : Bool) → bit_or (bit_and (lane_worth z) 0x0F + cond b 6 15) (lane_worth z) < 256
  by_test true = joint_below (lane_worth z) (lane_low z is)
  by_test false = mark_joint (lane_worth z) (lane_low z is)

lane_sum : (z : ℕ × ℕ) → bit_and (lane_worth z) 0x0F + carry_of z.0 < 256
lane_sum z = by_test (z.0 == 35) where
  by_test : (b : Bool) → bit_and (lane_worth z) 0x0F + cond b 6 15 < 256
  by_test true = omega (arith, and_le_r (lane_worth z) 0x0F)
  by_test false = omega (arith, and_le_r (lane_worth z) 0x0F)

-- what follows a picture is worth less than ten
lane_small : (z : ℕ × ℕ) → IsLane z → lane_follows z ≡ true → lane_worth z < 10
lane_small (p, t) is = by_test (p == 35) where
  by_test : (b : Bool) → cond b (is_ascii_digit t) (p == t) ≡ true → bit_xor t (cond b 48 p) < 10
  by_test true digit = ltb-true (worth t) 10 (worth_digit t is.1 ∙ digit)
  by_test false same =
      let none : bit_xor t p ≡ 0 = eqb-true (bit_xor t p) 0 (no_difference t p ∙ same) in
      omega (arith, none)

lanes_small : (zs : List (ℕ × ℕ)) → Each1 IsLane zs → list_all lane_follows zs ≡ true → Each1 (λ d. d < 10) (map lane_worth zs)
lanes_small [] each all = tt
lanes_small (z ∷ zs) each all = let parts = and_parts (lane_follows z) (list_all lane_follows zs) all in (lane_small z each.0 parts.0, lanes_small zs each.1 parts.1)

no_flags : (zs : List (ℕ × ℕ)) → Each1 IsLane zs → eqb (number_l 256 (map lane_flag zs)) 0 ≡ list_all lane_follows zs
no_flags [] each = refl
no_flags (z ∷ zs) each = zero_lane (lane_flag z) (number_l 256 (map lane_flag zs)) ∙ (λ i. lane_is z each.0 i && no_flags zs each.1 i)

each_sum : (zs : List (ℕ × ℕ)) → Each1 (λ b. b < 256) (map (λ z. bit_and (lane_worth z) 0x0F + carry_of z.0) zs)
each_sum [] = tt
each_sum (z ∷ zs) = (lane_sum z, each_sum zs)

-- as the code tests a word's worths
abbrev pub marked : ℕ → ℕ → Bool
marked w carries = nat_eq (bit_and (bit_or ((bit_and w 0x0F0F0F0F0F0F0F0F + carries) % 2 ^ 64) w) 0xF0F0F0F0F0F0F0F0) 0

flags_by : (zs : List (ℕ × ℕ)) → length zs ≡ 8 → Each1 IsLane zs → marked (number_l 256 (map lane_worth zs)) (number_l 256 (map (λ z. carry_of z.0) zs)) ≡ list_all lane_follows zs
flags_by zs long each =
    let lower : number_l 256 (map (λ (z : ℕ × ℕ). 0x0F) zs) ≡ 0x0F0F0F0F0F0F0F0F = eight (λ zs. number_l 256 (map (λ (z : ℕ × ℕ). 0x0F) zs) ≡ 0x0F0F0F0F0F0F0F0F) (λ a b c d e f g h. refl) zs long in
    let upper : number_l 256 (map (λ (z : ℕ × ℕ). 0xF0) zs) ≡ 0xF0F0F0F0F0F0F0F0 = eight (λ zs. number_l 256 (map (λ (z : ℕ × ℕ). 0xF0) zs) ≡ 0xF0F0F0F0F0F0F0F0) (λ a b c d e f g h. refl) zs long in
    let w : ℕ = number_l 256 (map lane_worth zs) in
    let k : ℕ = number_l 256 (map (λ z. carry_of z.0) zs) in
    let halves : bit_and w 0x0F0F0F0F0F0F0F0F ≡ number_l 256 (map (λ z. bit_and (lane_worth z) 0x0F) zs) =
    sym (λ i. bit_and w (lower i)) ∙ and_lanes lane_worth (λ z. 0x0F) zs (Each1-weaker IsLane (λ z. (lane_worth z < 256) × (0x0F < 256)) (λ z is. (lane_low z is, omega arith)) zs each) in
    let sums : bit_and w 0x0F0F0F0F0F0F0F0F + k ≡ number_l 256 (map (λ z. bit_and (lane_worth z) 0x0F + carry_of z.0) zs) =
    ap (λ n. n + k) halves ∙ sum_lanes (λ z. bit_and (lane_worth z) 0x0F) (λ z. carry_of z.0) zs in
    let low : number_l 256 (map (λ z. bit_and (lane_worth z) 0x0F + carry_of z.0) zs) < 2 ^ 64 =
    subst (λ n. number_l 256 (map (λ z. bit_and (lane_worth z) 0x0F + carry_of z.0) zs) < 256 ^ n) (length-map zs (λ z. bit_and (lane_worth z) 0x0F + carry_of z.0) ∙ long)
    (number-below (map (λ z. bit_and (lane_worth z) 0x0F + carry_of z.0) zs) (each_sum zs)) in
    let carried : (bit_and w 0x0F0F0F0F0F0F0F0F + k) % 2 ^ 64 ≡ number_l 256 (map (λ z. bit_and (lane_worth z) 0x0F + carry_of z.0) zs) = ap (λ n. n % 2 ^ 64) sums ∙ omega (arith, low) in
    let joins : bit_or ((bit_and w 0x0F0F0F0F0F0F0F0F + k) % 2 ^ 64) w ≡ number_l 256 (map (λ z. bit_or (bit_and (lane_worth z) 0x0F + carry_of z.0) (lane_worth z)) zs) =
    ap (λ n. bit_or n w) carried
    ∙ or_lanes (λ z. bit_and (lane_worth z) 0x0F + carry_of z.0) lane_worth zs
    (Each1-weaker IsLane (λ z. (bit_and (lane_worth z) 0x0F + carry_of z.0 < 256) × (lane_worth z < 256)) (λ z is. (lane_sum z, lane_low z is)) zs each) in
    ap (λ n. eqb n 0) ((λ i. bit_and (joins i) (sym upper i))
    ∙ and_lanes (λ z. bit_or (bit_and (lane_worth z) 0x0F + carry_of z.0) (lane_worth z)) (λ z. 0xF0) zs
    (Each1-weaker IsLane (λ z. (bit_or (bit_and (lane_worth z) 0x0F + carry_of z.0) (lane_worth z) < 256) × (0xF0 < 256)) (λ z is. (lane_joint z is, omega arith)) zs each))
    ∙ no_flags zs each

worths_of : (zs : List (ℕ × ℕ)) → Each1 IsLane zs → bit_xor (number_l 256 (map (λ z. z.1) zs)) (number_l 256 (map (λ z. naught_of z.0) zs)) ≡ number_l 256 (map lane_worth zs)
worths_of zs each = xor_lanes (λ z. z.1) (λ z. naught_of z.0) zs (Each1-weaker IsLane (λ z. (z.1 < 256) × (naught_of z.0 < 256)) (λ z is. (is.1, naught_low z is)) zs each)

lanes_law : (zs : List (ℕ × ℕ)) → length zs ≡ 8 → Each1 IsLane zs → (w carries : ℕ) → w ≡ number_l 256 (map lane_worth zs) → carries ≡ number_l 256 (map (λ z. carry_of z.0) zs) →
    (marked w carries ≡ list_all lane_follows zs) × (list_all lane_follows zs ≡ true → paired w ≡ word_of (pairs_of (map lane_worth zs)))
lanes_law zs long each w carries word carry = (
  (λ i. marked (word i) (carry i)) ∙ flags_by zs long each,
  λ all. ap paired word ∙ paired_spells (map lane_worth zs) (length-map zs lane_worth ∙ long) (lanes_small zs each all),
)

abbrev Spells : List ℕ → List ℕ → Type 0
Spells picture text = (naughts carries word : ℕ) → IsPicture picture naughts carries → IsWord text → word ≡ word_of text →
    (marked (bit_xor word naughts) carries ≡ follows_picture picture text)
    × (follows_picture picture text ≡ true → paired (bit_xor word naughts) ≡ word_of (pairs_of (worths_by picture text)))

spells : (picture text : List ℕ) → length picture ≡ 8 → length text ≡ 8 → Spells picture text
spells picture text first second =
    eight (λ picture. Spells picture text) (λ a b c d e f g h.
    eight (λ text. Spells (a ∷ b ∷ c ∷ d ∷ e ∷ f ∷ g ∷ h ∷ []) text) (λ s t u v w x y z. λ naughts carries word is fits same.
    let zs : List (ℕ × ℕ) = (a, s) ∷ (b, t) ∷ (c, u) ∷ (d, v) ∷ (e, w) ∷ (f, x) ∷ (g, y) ∷ (h, z) ∷ [] in
    let each : Each1 IsLane zs = each_lane is.is_word.1 fits.1 in
    lanes_law zs refl each (bit_xor word naughts) carries ((λ i. bit_xor (same i) (is.has_naughts i)) ∙ worths_of zs each) is.has_carries) text second) picture first where
      each_lane : {a b c d e f g h s t u v w x y z : ℕ} → Each1 (λ n. n < 256) (a ∷ b ∷ c ∷ d ∷ e ∷ f ∷ g ∷ h ∷ []) → Each1 (λ n. n < 256) (s ∷ t ∷ u ∷ v ∷ w ∷ x ∷ y ∷ z ∷ []) →
          Each1 IsLane ((a, s) ∷ (b, t) ∷ (c, u) ∷ (d, v) ∷ (e, w) ∷ (f, x) ∷ (g, y) ∷ (h, z) ∷ [])
      each_lane p q = ((p.0, q.0), ((p.1.0, q.1.0), ((p.1.1.0, q.1.1.0), ((p.1.1.1.0, q.1.1.1.0), ((p.1.1.1.1.0, q.1.1.1.1.0), ((p.1.1.1.1.1.0, q.1.1.1.1.1.0), ((p.1.1.1.1.1.1.0, q.1.1.1.1.1.1.0), ((p.1.1.1.1.1.1.1.0, q.1.1.1.1.1.1.1.0), tt))))))))

pub picture_spells : (picture text : List ℕ) → IsWord text → (naughts carries word : ℕ) → IsPicture picture naughts carries → word ≡ word_of text →
    (marked (bit_xor word naughts) carries ≡ follows_picture picture text)
    × (follows_picture picture text ≡ true → paired (bit_xor word naughts) ≡ word_of (pairs_of (worths_by picture text)))
picture_spells picture text fits naughts carries word is same = spells picture text is.is_word.0 fits.0 naughts carries word is fits same

-- ---- the bytes of a word

module _ (a b c d e f g h : ℕ) (A : a < 256) (B : b < 256) (C : c < 256) (D : d < 256) (E : e < 256) (F : f < 256) (G : g < 256) (H : h < 256) where
  pub byte_0 : bit_and (word_of (a ∷ b ∷ c ∷ d ∷ e ∷ f ∷ g ∷ h ∷ [])) 255 ≡ a
  byte_0 = and_mask (word_of (a ∷ b ∷ c ∷ d ∷ e ∷ f ∷ g ∷ h ∷ [])) 8 ∙ omega arith

  pub byte_2 : bit_and (word_of (a ∷ b ∷ c ∷ d ∷ e ∷ f ∷ g ∷ h ∷ []) / 65536) 255 ≡ c
  byte_2 = and_mask (word_of (a ∷ b ∷ c ∷ d ∷ e ∷ f ∷ g ∷ h ∷ []) / 65536) 8 ∙ omega arith

  pub byte_3 : bit_and (word_of (a ∷ b ∷ c ∷ d ∷ e ∷ f ∷ g ∷ h ∷ []) / 16777216) 255 ≡ d
  byte_3 = and_mask (word_of (a ∷ b ∷ c ∷ d ∷ e ∷ f ∷ g ∷ h ∷ []) / 16777216) 8 ∙ omega arith

  pub byte_5 : bit_and (word_of (a ∷ b ∷ c ∷ d ∷ e ∷ f ∷ g ∷ h ∷ []) / 1099511627776) 255 ≡ f
  byte_5 = and_mask (word_of (a ∷ b ∷ c ∷ d ∷ e ∷ f ∷ g ∷ h ∷ []) / 1099511627776) 8 ∙ omega arith

  pub byte_6 : bit_and (word_of (a ∷ b ∷ c ∷ d ∷ e ∷ f ∷ g ∷ h ∷ []) / 281474976710656) 255 ≡ g
  byte_6 = and_mask (word_of (a ∷ b ∷ c ∷ d ∷ e ∷ f ∷ g ∷ h ∷ []) / 281474976710656) 8 ∙ omega arith
