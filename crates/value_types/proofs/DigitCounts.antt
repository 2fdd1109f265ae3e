-- How many digits stand at the front of a word is told by the lowest flag of the bytes that are none.
use Rattle.std.proofs.Common.{◌≡◌, ℕ, zero, suc, ◌+◌, ◌-◌, ◌*◌, ◌/◌, ◌%◌, ◌^◌, ◌<◌, ◌≤◌, Bool, true, false, ◌&&◌, ◌||◌, eqb, ltb, cond, bit_and, bit_or, bit_xor, refl, sym, ap, ◌∙◌, arith, List, [], ◌∷◌, length, map, inl, inr, eqb-true, get_or, ltb-true, ltb-false, w64, ◌⊎◌, eq-zero-or-pos}
use Rattle.std.specs.Int.{bit_at, trailing_zeros}
use Rattle.std.specs.List.{prefix_len}
use Rattle.std.specs.Char.{is_ascii_digit}
use Rattle.std.specs.Prelude.{slice_range}
use Rattle.std.proofs.lemmas.Grind.{common_steps}
use Rattle.std.specs.Simd.Lanes.{Each1, number_l}
use Rattle.std.proofs.lemmas.Bool.{and_parts, cases_Bool}
use Rattle.std.proofs.lemmas.List.{length-map}
use Rattle.std.proofs.lemmas.List.Sums.{prefix_len_stops}
use Rattle.std.proofs.lemmas.Nat.{and_block, and_le_r, and_mod, or_block, or_mod, pow-add}
use Rattle.std.proofs.Math.Nat.{div-div-eq-div-mul}
use Rattle.std.specs.Int.Count.{trailing_of_zero}
use Rattle.std.proofs.lemmas.Nat.Bits.{bit_at-trailing_zeros, bit_at-zero}
use Rattle.value_types.specs.Words.{IsWord, is_worth_of_digit, word_of, worth}
use Rattle.value_types.proofs.WordDigits.{t_true}
use Rattle.value_types.proofs.WordLanes.{eight, every_below}
use Rattle.value_types.proofs.WordTexts.{IsWord-slice, worth_digit, worths_below, xored}

-- a word of the same byte in each place
abbrev fill : ℕ → List ℕ → ℕ
fill k ws = number_l 256 (map (λ (w : ℕ). k) ws)

-- the top bit of each byte that is worth ten or more, up to the first
abbrev flags : List ℕ → ℕ
flags ws = bit_and (bit_or (number_l 256 ws + fill 118 ws) (number_l 256 ws)) (fill 128 ws)

-- ---- one byte

abbrev low_tells : ℕ → Bool
low_tells w = eqb (bit_and (bit_or (w + 118) w) 128) 0 && ltb (bit_or (w + 118) w) 256

low_tests : (w : ℕ) → w < 10 → (bit_and (bit_or (w + 118) w) 128 ≡ 0) × (bit_or (w + 118) w < 256)
low_tests w low =
    let parts = and_parts (eqb (bit_and (bit_or (w + 118) w) 128) 0) (ltb (bit_or (w + 118) w) 256) (t_true (low_tells w) (every_below low_tells 10 tt w low)) in
    (eqb-true (bit_and (bit_or (w + 118) w) 128) 0 parts.0, ltb-true (bit_or (w + 118) w) 256 parts.1)

abbrev high_tells : ℕ → Bool
high_tells w = ltb w 10 || (eqb (bit_and (bit_or ((w + 118) % 256) w) 128) 128 && ltb (bit_or ((w + 118) % 256) w) 256)

high_tests : (w : ℕ) → w < 256 → ltb w 10 ≡ false → (bit_and (bit_or ((w + 118) % 256) w) 128 ≡ 128) × (bit_or ((w + 118) % 256) w < 256)
high_tests w W other =
    let both = sym (ap (λ t. t || (eqb (bit_and (bit_or ((w + 118) % 256) w) 128) 128 && ltb (bit_or ((w + 118) % 256) w) 256)) other) ∙ t_true (high_tells w) (every_below high_tells 256 tt w W) in
    let parts = and_parts (eqb (bit_and (bit_or ((w + 118) % 256) w) 128) 128) (ltb (bit_or ((w + 118) % 256) w) 256) both in
    (eqb-true (bit_and (bit_or ((w + 118) % 256) w) 128) 128 parts.0, ltb-true (bit_or ((w + 118) % 256) w) 256 parts.1)

-- behind a digit the flags are those of the bytes behind it
flags_digit : (w : ℕ) (ws : List ℕ) → w < 10 → flags (w ∷ ws) ≡ flags ws * 2 ^ 8
flags_digit w ws low =
    let n : ℕ = number_l 256 ws in
    let tests = low_tests w low in
    let sum : w + 256 * n + (118 + 256 * fill 118 ws) ≡ (n + fill 118 ws) * 2 ^ 8 + (w + 118) = omega arith in
    let word : w + 256 * n ≡ n * 2 ^ 8 + w = omega arith in
    let mask : 128 + 256 * fill 128 ws ≡ fill 128 ws * 2 ^ 8 + 128 = omega arith in
    let joint : bit_or (w + 256 * n + (118 + 256 * fill 118 ws)) (w + 256 * n) ≡ bit_or (n + fill 118 ws) n * 2 ^ 8 + bit_or (w + 118) w =
    (λ i. bit_or (sum i) (word i)) ∙ or_block 8 (n + fill 118 ws) n (w + 118) w (omega arith) (omega arith) in
    (λ i. bit_and (joint i) (mask i)) ∙ and_block 8 (bit_or (n + fill 118 ws) n) (fill 128 ws) (bit_or (w + 118) w) 128 tests.1 (omega arith) ∙ omega (arith, tests.0)

-- another byte has its own
flags_other : (w : ℕ) (ws : List ℕ) → w < 256 → ltb w 10 ≡ false → (q : ℕ) × (flags (w ∷ ws) ≡ q * 2 ^ 8 + 128)
flags_other w ws W other =
    let n : ℕ = number_l 256 ws in
    let tests = high_tests w W other in
    let carry : ℕ = (w + 118) / 256 in
    let sum : w + 256 * n + (118 + 256 * fill 118 ws) ≡ (n + fill 118 ws + (w + 118) / 256) * 2 ^ 8 + (w + 118) % 256 = omega arith in
    let word : w + 256 * n ≡ n * 2 ^ 8 + w = omega arith in
    let mask : 128 + 256 * fill 128 ws ≡ fill 128 ws * 2 ^ 8 + 128 = omega arith in
    let joint : bit_or (w + 256 * n + (118 + 256 * fill 118 ws)) (w + 256 * n) ≡ bit_or (n + fill 118 ws + (w + 118) / 256) n * 2 ^ 8 + bit_or ((w + 118) % 256) w =
    (λ i. bit_or (sum i) (word i)) ∙ or_block 8 (n + fill 118 ws + (w + 118) / 256) n ((w + 118) % 256) w (omega arith) (omega arith) in (
      bit_and (bit_or (n + fill 118 ws + (w + 118) / 256) n) (fill 128 ws),
      (λ i. bit_and (joint i) (mask i)) ∙ and_block 8 (bit_or (n + fill 118 ws + (w + 118) / 256) n) (fill 128 ws) (bit_or ((w + 118) % 256) w) 128 tests.1 (omega arith)
          ∙ ap (λ k. bit_and (bit_or (n + fill 118 ws + (w + 118) / 256) n) (fill 128 ws) * 2 ^ 8 + k) tests.0,
    )

-- ---- the lowest flag

-- the place of a number's lowest 1
pub record IsLowest (n t : ℕ) : Type 0 where
  pub set : bit_at n t ≡ 1
  pub below : (i : ℕ) → i < t → bit_at n i ≡ 0

no_low_bit : (n t : ℕ) → t < 8 → bit_at (n * 2 ^ 8) t ≡ 0
no_low_bit n zero low = omega arith
no_low_bit n (suc zero) low = omega arith
no_low_bit n (suc (suc zero)) low = omega arith
no_low_bit n (suc (suc (suc zero))) low = omega arith
no_low_bit n (suc (suc (suc (suc zero)))) low = omega arith
no_low_bit n (suc (suc (suc (suc (suc zero))))) low = omega arith
no_low_bit n (suc (suc (suc (suc (suc (suc zero)))))) low = omega arith
no_low_bit n (suc (suc (suc (suc (suc (suc (suc zero))))))) low = omega arith
no_low_bit n (suc (suc (suc (suc (suc (suc (suc (suc t)))))))) low = absurd (let out : ⊥ = omega (arith, low) in out)

bit_moved : (n t : ℕ) → bit_at (n * 2 ^ 8) (8 + t) ≡ bit_at n t
bit_moved n t = ap (λ p. n * 2 ^ 8 / p % 2) (pow-add 2 8 t) ∙ ap (λ m. m % 2) (sym (div-div-eq-div-mul (n * 2 ^ 8) (2 ^ 8) (2 ^ t)) ∙ ap (λ m. m / 2 ^ t) exact) where
  exact : n * 2 ^ 8 / 2 ^ 8 ≡ n
  exact = omega arith

first_other : (ws : List ℕ) → Each1 (λ b. b < 256) ws → (t : ℕ) → IsLowest (flags ws) t → t / 8 ≡ prefix_len is_worth_of_digit ws
first_other [] each t is = absurd (let out : ⊥ = omega (arith, is.set, bit_at-zero t) in out)
first_other (w ∷ ws) each t is = elim (cases_Bool (ltb w 10)) [
  | inl digit ↦ by_digit digit (first_other ws each.1)
  | inr other ↦ by_other other
] where
  by_digit : ltb w 10 ≡ true → ((t : ℕ) → IsLowest (flags ws) t → t / 8 ≡ prefix_len is_worth_of_digit ws) → t / 8 ≡ prefix_len is_worth_of_digit (w ∷ ws)
  by_digit digit further =
      let same : flags (w ∷ ws) ≡ flags ws * 2 ^ 8 = flags_digit w ws (ltb-true w 10 digit) in
      by_place (cases_Bool (ltb t 8)) same where
        by_place : (ltb t 8 ≡ true) ⊎ (ltb t 8 ≡ false) → flags (w ∷ ws) ≡ flags ws * 2 ^ 8 → t / 8 ≡ prefix_len is_worth_of_digit (w ∷ ws)
        by_place (inl early) same = absurd (let out : ⊥ = omega (arith, is.set, ap (λ n. bit_at n t) same, no_low_bit (flags ws) t (ltb-true t 8 early)) in out)
        by_place (inr late) same =
            let eight_more : t ≡ 8 + (t - 8) = omega (arith, ltb-false t 8 late) in
            let behind : IsLowest (flags ws) (t - 8) = record {
              set = sym (bit_moved (flags ws) (t - 8)) ∙ sym (ap (λ n. bit_at n (8 + (t - 8))) same) ∙ sym (ap (bit_at (flags (w ∷ ws))) eight_more) ∙ is.set;
              below = λ i lt. sym (bit_moved (flags ws) i) ∙ sym (ap (λ n. bit_at n (8 + i)) same) ∙ is.below (8 + i) (omega (arith, lt));
            } in
            let rest : (t - 8) / 8 ≡ prefix_len is_worth_of_digit ws = further (t - 8) behind in
            let more : t / 8 ≡ 1 + (t - 8) / 8 = omega (arith, ltb-false t 8 late) in
            more ∙ ap (λ n. 1 + n) rest ∙ sym (ap (λ b. cond b (1 + prefix_len is_worth_of_digit ws) 0) digit)

  by_other : ltb w 10 ≡ false → t / 8 ≡ prefix_len is_worth_of_digit (w ∷ ws)
  by_other other =
      let found = flags_other w ws each.0 other in
      let here : bit_at (flags (w ∷ ws)) 7 ≡ 1 = ap (λ n. bit_at n 7) found.1 ∙ omega arith in
      by_place (cases_Bool (ltb t 8)) here where
        by_place : (ltb t 8 ≡ true) ⊎ (ltb t 8 ≡ false) → bit_at (flags (w ∷ ws)) 7 ≡ 1 → t / 8 ≡ prefix_len is_worth_of_digit (w ∷ ws)
        by_place (inl early) here = let none : t / 8 ≡ 0 = omega (arith, ltb-true t 8 early) in none ∙ sym (ap (λ b. cond b (1 + prefix_len is_worth_of_digit ws) 0) other)
        by_place (inr late) here = absurd (let out : ⊥ = omega (arith, here, is.below 7 (omega (arith, ltb-false t 8 late))) in out)

no_other : (ws : List ℕ) → Each1 (λ b. b < 256) ws → flags ws ≡ 0 → prefix_len is_worth_of_digit ws ≡ length ws
no_other [] each none = refl
no_other (w ∷ ws) each none = elim (cases_Bool (ltb w 10)) [
  | inl digit ↦ let same = flags_digit w ws (ltb-true w 10 digit) in
      ap (λ b. cond b (1 + prefix_len is_worth_of_digit ws) 0) digit ∙ ap (λ n. 1 + n) (no_other ws each.1 (omega (arith, same, none))) ∙ omega arith
  | inr other ↦ let found = flags_other w ws each.0 other in absurd (let out : ⊥ = omega (arith, found.1, none) in out)
]

-- ---- as the code counts

abbrev pub others_in : ℕ → ℕ
others_in w = bit_and (bit_or ((w + 0x7676767676767676) % 2 ^ 64) w) 0x8080808080808080

within_mask : (a h : ℕ) → h < 2 ^ 64 → bit_and a h ≡ bit_and (a % 2 ^ 64) (h % 2 ^ 64)
within_mask a h H = let small : bit_and a h < 2 ^ 64 = omega (arith, and_le_r a h, H) in let same : bit_and a h ≡ bit_and a h % 2 ^ 64 = omega (arith, small) in same ∙ and_mod a h 64

wrapped : (s w h : ℕ) → h < 2 ^ 64 → bit_and (bit_or (s % 2 ^ 64) w) h ≡ bit_and (bit_or s w) h
wrapped s w h H =
    let twice : s % 2 ^ 64 % 2 ^ 64 ≡ s % 2 ^ 64 = omega arith in
    within_mask (bit_or (s % 2 ^ 64) w) h H
    ∙ ap (λ n. bit_and n (h % 2 ^ 64)) (or_mod (s % 2 ^ 64) w 64 ∙ ap (λ n. bit_or n (w % 2 ^ 64)) twice ∙ sym (or_mod s w 64))
    ∙ sym (within_mask (bit_or s w) h H)

flags_are : (ws : List ℕ) → length ws ≡ 8 → others_in (word_of ws) ≡ flags ws
flags_are ws long =
    let sevens : fill 118 ws ≡ 0x7676767676767676 = eight (λ ws. fill 118 ws ≡ 0x7676767676767676) (λ a b c d e f g h. refl) ws long in
    let tops : fill 128 ws ≡ 0x8080808080808080 = eight (λ ws. fill 128 ws ≡ 0x8080808080808080) (λ a b c d e f g h. refl) ws long in
    wrapped (word_of ws + 0x7676767676767676) (word_of ws) 0x8080808080808080 (omega arith)
    ∙ (λ i. bit_and (bit_or (word_of ws + sym sevens i) (word_of ws)) (sym tops i))

flags_below : (ws : List ℕ) → length ws ≡ 8 → flags ws < 2 ^ 64
flags_below ws long =
    let tops : fill 128 ws ≡ 0x8080808080808080 = eight (λ ws. fill 128 ws ≡ 0x8080808080808080) (λ a b c d e f g h. refl) ws long in
    omega (arith, and_le_r (bit_or (number_l 256 ws + fill 118 ws) (number_l 256 ws)) (fill 128 ws), tops)

counted : (ws : List ℕ) → IsWord ws → trailing_zeros w64 (flags ws) / 8 ≡ prefix_len is_worth_of_digit ws
counted ws is = elim (eq-zero-or-pos (flags ws)) [
  | inl none ↦ let all : 64 / 8 ≡ prefix_len is_worth_of_digit ws = omega (arith, no_other ws is.1 none, is.0) in
      ap (λ n. trailing_zeros w64 n / 8) none ∙ ap (λ n. n / 8) (trailing_of_zero 64) ∙ all
  | inr some ↦ let found = bit_at-trailing_zeros w64 (flags ws) some (flags_below ws is.0) in
      first_other ws is.1 (trailing_zeros w64 (flags ws)) (record { set = found.1; below = found.2 })
]

prefix_worths : (text : List ℕ) → Each1 (λ b. b < 256) text → prefix_len is_worth_of_digit (map worth text) ≡ prefix_len is_ascii_digit text
prefix_worths [] each = refl
prefix_worths (b ∷ text) each = λ i. cond (worth_digit b each.0 i) (1 + prefix_worths text each.1 i) 0

pub digits_counted : (text : List ℕ) (word : ℕ) → IsWord text → word ≡ word_of text → trailing_zeros w64 (others_in (bit_xor word 0x3030303030303030)) / 8 ≡ prefix_len is_ascii_digit text
digits_counted text word is same =
    let ws : List ℕ = map worth text in
    let fits : IsWord ws = (length-map text worth ∙ is.0, worths_below text is.1) in
    ap (λ n. trailing_zeros w64 n / 8) (ap others_in (ap (λ n. bit_xor n 0x3030303030303030) same ∙ xored text is) ∙ flags_are ws fits.0)
    ∙ counted ws fits ∙ prefix_worths text is.1

-- the byte behind the digits that a word begins with is none, where the word has one
pub no_digit_behind : (bytes : List ℕ) (from count word : ℕ) → from + 8 ≤ length bytes → ((k : ℕ) → k < length bytes → get_or bytes k 0 < 256) →
    word ≡ word_of (slice_range bytes from (from + 8)) → ((text : List ℕ) → IsWord text → word ≡ word_of text → count ≡ prefix_len is_ascii_digit text) → count < 8 →
    is_ascii_digit (get_or bytes (from + count) 0) ≡ false
no_digit_behind bytes from count word within fit same counts few =
    let text : List ℕ = slice_range bytes from (from + 8) in
    let fits : IsWord text = IsWord-slice bytes from within fit in
    let is : count ≡ prefix_len is_ascii_digit text = counts text fits same in
    let at : get_or text count 0 ≡ get_or bytes (from + count) 0 = grind (arith, common_steps) in
    ap is_ascii_digit (sym at ∙ ap (λ k. get_or text k 0) is) ∙ prefix_len_stops is_ascii_digit text 0 (omega (arith, is, few, fits.0))
