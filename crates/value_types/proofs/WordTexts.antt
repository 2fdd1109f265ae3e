-- Texts of one to eight bytes at the front of words: what their bytes are worth, and what they spell.
use Rattle.std.proofs.Common.{◌≡◌, ℕ, zero, suc, ◌+◌, ◌-◌, ◌*◌, ◌/◌, ◌%◌, ◌^◌, ◌<◌, ◌≤◌, Bool, true, false, not, ◌&&◌, ◌||◌, T, eqb, ltb, bit_xor, refl, sym, ap, ◌∙◌, subst, arith, List, [], ◌∷◌, ◌++◌, length, map, replicate, ltb-true, eqb-true, cond, get_or, length-append, length-drop, drop, Some, None}
use Rattle.std.specs.Prelude.{slice_range}
use Rattle.std.specs.List.{list_all}
use Rattle.std.specs.Char.{is_ascii_digit}
use Rattle.std.proofs.lemmas.Grind.{common_steps}
use Rattle.value_types.specs.Digits.{decimal_value, natural_of}
use Rattle.std.specs.Simd.Lanes.{Each1, number_l}
use Rattle.std.proofs.lemmas.Bool.{and_parts}
use Rattle.std.proofs.lemmas.Nat.{mod-mul-add, div-mul-add, xor_of_8}
use Rattle.std.proofs.lemmas.List.{take_all, map-id, map-append, length-map}
use Rattle.std.proofs.lemmas.Simd.{Each1-weaker, Each1-from_get_or}
use Rattle.std.proofs.Math.Nat.{pow-suc, mul-lt-mul_of_pos_right, mul_comm}
use lib.Ieee.Fits.{and_l, and_r}
use mathlib.Core.Bool.{beq}
use Rattle.value_types.specs.Words.{BeginsWord, IsWord, is_worth_of_digit, spelled, word_of, worth}
use Rattle.value_types.proofs.WordLanes.{eight, every_below, beq_is, xor_lanes}
use Rattle.value_types.proofs.SlicesInBytes.{length-slice, slice_split}
use Rattle.value_types.proofs.WordDigits.{t_true}

-- ---- what bytes are worth

pub number-append : (xs ys : List ℕ) → number_l 256 (xs ++ ys) ≡ number_l 256 xs + 256 ^ length xs * number_l 256 ys
number-append [] ys = omega arith
number-append (x ∷ xs) ys =
    ap (λ n. x + 256 * n) (number-append xs ys) ∙ longer x (number_l 256 xs) (256 ^ length xs) (number_l 256 ys)
    ∙ ap (λ p. (x + 256 * number_l 256 xs) + p * number_l 256 ys) (sym (pow-suc 256 (length xs))) where
      longer : (x n p m : ℕ) → x + 256 * (n + p * m) ≡ (x + 256 * n) + (p * 256) * m
      longer x n p m = grind arith

pub number-below : (xs : List ℕ) → Each1 (λ b. b < 256) xs → number_l 256 xs < 256 ^ length xs
number-below [] each = omega arith
number-below (x ∷ xs) each = omega (arith, number-below xs each.1, each.0, pow-suc 256 (length xs))

number-zeros : (k : ℕ) (xs : List ℕ) → number_l 256 (replicate k 0 ++ xs) ≡ 256 ^ k * number_l 256 xs
number-zeros zero xs = omega arith
number-zeros (suc k) xs =
    ap (λ n. 0 + 256 * n) (number-zeros k xs) ∙ longer (256 ^ k) (number_l 256 xs) ∙ ap (λ p. p * number_l 256 xs) (sym (pow-suc 256 k)) where
      longer : (p n : ℕ) → 0 + 256 * (p * n) ≡ (p * 256) * n
      longer p n = grind arith

moved : (n q m p : ℕ) → q * p ≡ 2 ^ 64 → 0 < p → n < q → ((n + q * m) * p) % 2 ^ 64 ≡ p * n
moved n q m p whole some low =
    let spread : (n + q * m) * p ≡ m * (q * p) + n * p = grind arith in
    let below : n * p < q * p = mul-lt-mul_of_pos_right low some in
    ap (λ k. k % 2 ^ 64) (spread ∙ ap (λ k. m * k + n * p) whole) ∙ mod-mul-add m (2 ^ 64) (n * p) (omega (arith, below, whole)) ∙ mul_comm n p

abbrev shift_tells : ℕ → Bool
shift_tells c = eqb (256 ^ c * 2 ^ (8 * (8 - c))) (2 ^ 64) && (eqb (256 ^ (8 - c)) (2 ^ (8 * (8 - c))) && ltb 0 (2 ^ (8 * (8 - c))))

pub shift_facts : (c : ℕ) → c ≤ 8 → (256 ^ c * 2 ^ (8 * (8 - c)) ≡ 2 ^ 64) × (256 ^ (8 - c) ≡ 2 ^ (8 * (8 - c))) × (0 < 2 ^ (8 * (8 - c)))
shift_facts c le =
    let t : T (shift_tells c) = every_below shift_tells 9 tt c (omega arith) in
    let whole : T (eqb (256 ^ c * 2 ^ (8 * (8 - c))) (2 ^ 64)) = and_l (eqb (256 ^ c * 2 ^ (8 * (8 - c))) (2 ^ 64)) (eqb (256 ^ (8 - c)) (2 ^ (8 * (8 - c))) && ltb 0 (2 ^ (8 * (8 - c)))) t in
    let more = and_r (eqb (256 ^ c * 2 ^ (8 * (8 - c))) (2 ^ 64)) (eqb (256 ^ (8 - c)) (2 ^ (8 * (8 - c))) && ltb 0 (2 ^ (8 * (8 - c)))) t in
    let same = and_l (eqb (256 ^ (8 - c)) (2 ^ (8 * (8 - c)))) (ltb 0 (2 ^ (8 * (8 - c)))) more in
    let some = and_r (eqb (256 ^ (8 - c)) (2 ^ (8 * (8 - c)))) (ltb 0 (2 ^ (8 * (8 - c)))) more in (
      eqb-true (256 ^ c * 2 ^ (8 * (8 - c))) (2 ^ 64) (t_true (eqb (256 ^ c * 2 ^ (8 * (8 - c))) (2 ^ 64)) whole),
      eqb-true (256 ^ (8 - c)) (2 ^ (8 * (8 - c))) (t_true (eqb (256 ^ (8 - c)) (2 ^ (8 * (8 - c)))) same),
      ltb-true 0 (2 ^ (8 * (8 - c))) (t_true (ltb 0 (2 ^ (8 * (8 - c)))) some),
    )

abbrev worth_tells : ℕ → Bool
worth_tells b = beq (is_worth_of_digit (worth b)) (is_ascii_digit b) && (ltb (worth b) 256 && (not (is_ascii_digit b) || eqb (worth b) (b - 48)))

worth_tests : (b : ℕ) → b < 256 → T (worth_tells b)
worth_tests b B = every_below worth_tells 256 tt b B

pub worth_digit : (b : ℕ) → b < 256 → is_worth_of_digit (worth b) ≡ is_ascii_digit b
worth_digit b B =
    beq_is (is_worth_of_digit (worth b)) (is_ascii_digit b)
    (and_l (beq (is_worth_of_digit (worth b)) (is_ascii_digit b)) (ltb (worth b) 256 && (not (is_ascii_digit b) || eqb (worth b) (b - 48))) (worth_tests b B))

pub worth_below : (b : ℕ) → b < 256 → worth b < 256
worth_below b B = xor_of_8 b 48 B (omega arith)

pub worth_is : (b : ℕ) → b < 256 → is_ascii_digit b ≡ true → worth b ≡ b - 48
worth_is b B digit =
    let tests = and_r (beq (is_worth_of_digit (worth b)) (is_ascii_digit b)) (ltb (worth b) 256 && (not (is_ascii_digit b) || eqb (worth b) (b - 48))) (worth_tests b B) in
    let last = and_r (ltb (worth b) 256) (not (is_ascii_digit b) || eqb (worth b) (b - 48)) tests in
    eqb-true (worth b) (b - 48) (t_true (eqb (worth b) (b - 48)) (subst (λ t. T (not t || eqb (worth b) (b - 48))) digit last))

pub worths_below : (bytes : List ℕ) → Each1 (λ b. b < 256) bytes → Each1 (λ b. b < 256) (map worth bytes)
worths_below [] each = tt
worths_below (b ∷ bytes) each = (worth_below b each.0, worths_below bytes each.1)

each_front : (xs ys : List ℕ) → Each1 (λ b. b < 256) (xs ++ ys) → Each1 (λ b. b < 256) xs
each_front [] ys each = tt
each_front (x ∷ xs) ys each = (each.0, each_front xs ys each.1)

pub xored : (bytes : List ℕ) → IsWord bytes → bit_xor (word_of bytes) 0x3030303030303030 ≡ word_of (map worth bytes)
xored bytes is =
    let zeros : number_l 256 (map (λ (x : ℕ). 0x30) bytes) ≡ 0x3030303030303030 = eight (λ bs. number_l 256 (map (λ (x : ℕ). 0x30) bs) ≡ 0x3030303030303030) (λ a b c d e f g h. refl) bytes is.0 in
    sym (λ i. bit_xor (number_l 256 (map-id bytes i)) (zeros i))
    ∙ xor_lanes (λ b. b) (λ b. 0x30) bytes (Each1-weaker (λ b. b < 256) (λ b. (b < 256) × (0x30 < 256)) (λ b B. (B, omega arith)) bytes is.1)

-- the worths of a text's bytes, behind as many zeros as make them a word
abbrev pub behind_zeros : ℕ → List ℕ → List ℕ
behind_zeros count text = replicate (8 - count) 0 ++ map worth text

pub shifted_worths : (text more : List ℕ) (count : ℕ) → length text ≡ count → IsWord (text ++ more) → count ≤ 8 →
    bit_xor (word_of (text ++ more)) 0x3030303030303030 * 2 ^ (8 * (8 - count)) % 2 ^ 64 ≡ word_of (behind_zeros count text)
shifted_worths text more count long is few =
    let xs : List ℕ = map worth text in
    let ys : List ℕ = map worth more in
    let facts = shift_facts count few in
    let size : length xs ≡ count = length-map text worth ∙ long in
    let word : bit_xor (word_of (text ++ more)) 0x3030303030303030 ≡ number_l 256 xs + 256 ^ count * number_l 256 ys =
    xored (text ++ more) is ∙ ap (number_l 256) (map-append worth text more) ∙ number-append xs ys ∙ ap (λ k. number_l 256 xs + 256 ^ k * number_l 256 ys) size in
    let low : number_l 256 xs < 256 ^ count = subst (λ k. number_l 256 xs < 256 ^ k) size (number-below xs (worths_below text (each_front text more is.1))) in
    ap (λ n. n * 2 ^ (8 * (8 - count)) % 2 ^ 64) word
    ∙ moved (number_l 256 xs) (256 ^ count) (number_l 256 ys) (2 ^ (8 * (8 - count))) facts.0 facts.2 low
    ∙ sym (number-zeros (8 - count) xs ∙ ap (λ p. p * number_l 256 xs) facts.1)

-- ---- what they spell

zeros_below : (k : ℕ) (xs : List ℕ) → Each1 (λ b. b < 256) xs → Each1 (λ b. b < 256) (replicate k 0 ++ xs)
zeros_below zero xs each = each
zeros_below (suc k) xs each = (omega arith, zeros_below k xs each)

zeros_long : (k : ℕ) (xs : List ℕ) → length (replicate k 0 ++ xs) ≡ k + length xs
zeros_long zero xs = omega arith
zeros_long (suc k) xs = omega (arith, zeros_long k xs)

zeros_digits : (k : ℕ) (xs : List ℕ) → list_all is_worth_of_digit (replicate k 0 ++ xs) ≡ list_all is_worth_of_digit xs
zeros_digits zero xs = refl
zeros_digits (suc k) xs = zeros_digits k xs

zeros_spell : (k : ℕ) (xs : List ℕ) → spelled (replicate k 0 ++ xs) ≡ spelled xs
zeros_spell zero xs = refl
zeros_spell (suc k) xs = omega (arith, zeros_spell k xs)

worths_digits : (text : List ℕ) → Each1 (λ b. b < 256) text → list_all is_worth_of_digit (map worth text) ≡ list_all is_ascii_digit text
worths_digits [] each = refl
worths_digits (b ∷ text) each = λ i. worth_digit b each.0 i && worths_digits text each.1 i

worths_spell : (text : List ℕ) → Each1 (λ b. b < 256) text → list_all is_ascii_digit text ≡ true → spelled (map worth text) ≡ decimal_value text
worths_spell [] each digits = refl
worths_spell (b ∷ text) each digits =
    let parts = and_parts (is_ascii_digit b) (list_all is_ascii_digit text) digits in
    λ i. worth_is b each.0 parts.0 i * 10 ^ length-map text worth i + worths_spell text each.1 parts.1 i

natural_of-some : (text : List ℕ) → 0 < length text → natural_of text ≡ cond (list_all is_ascii_digit text) (Some (decimal_value text)) None
natural_of-some [] some = absurd (omega arith)
natural_of-some (d ∷ ds) some = refl

module _ (text more : List ℕ) (count : ℕ) (long : length text ≡ count) (some : 0 < count) (few : count ≤ 8) (is : IsWord (text ++ more)) where
  fitting : Each1 (λ b. b < 256) text
  fitting = each_front text more is.1

  pub IsWord-behind_zeros : IsWord (behind_zeros count text)
  IsWord-behind_zeros = (
    zeros_long (8 - count) (map worth text) ∙ omega (arith, length-map text worth, long),
    zeros_below (8 - count) (map worth text) (worths_below text fitting),
  )

  pub tested : list_all is_worth_of_digit (behind_zeros count text) ≡ list_all is_ascii_digit text
  tested = zeros_digits (8 - count) (map worth text) ∙ worths_digits text fitting

  pub natural-digits : list_all is_worth_of_digit (behind_zeros count text) ≡ true → Some (spelled (behind_zeros count text)) ≡ natural_of text
  natural-digits digits =
      let ascii : list_all is_ascii_digit text ≡ true = sym tested ∙ digits in
      ap Some (zeros_spell (8 - count) (map worth text) ∙ worths_spell text fitting ascii)
      ∙ sym (natural_of-some text (omega arith) ∙ ap (λ t. cond t (Some (decimal_value text)) None) ascii)

  pub natural-others : list_all is_worth_of_digit (behind_zeros count text) ≡ false → None ≡ natural_of text
  natural-others others =
      let ascii : list_all is_ascii_digit text ≡ false = sym tested ∙ others in
      sym (natural_of-some text (omega arith) ∙ ap (λ t. cond t (Some (decimal_value text)) None) ascii)

-- ---- words that begin with a text

pub IsWord-slice : (bytes : List ℕ) (from : ℕ) → from + 8 ≤ length bytes → ((k : ℕ) → k < length bytes → get_or bytes k 0 < 256) → IsWord (slice_range bytes from (from + 8))
IsWord-slice bytes from within fit =
    let size : length (slice_range bytes from (from + 8)) ≡ 8 = length-slice bytes from (from + 8) within ∙ omega arith in (
      size,
      Each1-from_get_or (λ b. b < 256) (slice_range bytes from (from + 8)) 0
          (λ i lt. let at : get_or (slice_range bytes from (from + 8)) i 0 ≡ get_or bytes (from + i) 0 = grind (arith, common_steps) in rw at (fit (from + i) (omega (arith, lt, size)))),
    )

-- the bytes from the text on
pub begins_ahead : (bytes : List ℕ) (from end word : ℕ) → from ≤ end → end ≤ from + 8 → from + 8 ≤ length bytes → ((k : ℕ) → k < length bytes → get_or bytes k 0 < 256) →
    word ≡ word_of (slice_range bytes from (from + 8)) → BeginsWord (slice_range bytes from end) word
begins_ahead bytes from end word first second within fit is =
    let parts = slice_split bytes from end (from + 8) first second within in
    (slice_range bytes end (from + 8), subst IsWord parts (IsWord-slice bytes from within fit), is ∙ ap word_of parts)

-- the bytes up to the text's end, moved to the front
begins_behind : (bytes : List ℕ) (from end word : ℕ) → from ≤ end → end ≤ from + 8 → 8 ≤ end → end ≤ length bytes → ((k : ℕ) → k < length bytes → get_or bytes k 0 < 256) →
    word ≡ word_of (slice_range bytes (end - 8) (end - 8 + 8)) → BeginsWord (slice_range bytes from end) (word / 2 ^ (8 * (8 - (end - from))))
begins_behind bytes from end word first second room within fit is =
    let count : ℕ = end - from in
    let text : List ℕ = slice_range bytes from end in
    let before : List ℕ = slice_range bytes (end - 8) from in
    let e : end - 8 + 8 ≡ end = omega arith in
    let parts : slice_range bytes (end - 8) (end - 8 + 8) ≡ before ++ text = ap (slice_range bytes (end - 8)) e ∙ slice_split bytes (end - 8) from end (omega arith) first within in
    let whole : IsWord (before ++ text) = subst IsWord parts (IsWord-slice bytes (end - 8) (omega arith) fit) in
    let long : length before ≡ 8 - count = length-slice bytes (end - 8) from (omega arith) ∙ omega arith in
    let size : length text ≡ count = length-slice bytes from end within in
    let low : number_l 256 before < 256 ^ (8 - count) = subst (λ k. number_l 256 before < 256 ^ k) long (number-below before (each_front before text whole.1)) in
    let power : 256 ^ (8 - count) ≡ 2 ^ (8 * (8 - count)) = (shift_facts count (omega arith)).1 in
    let sum : word ≡ word_of text * 256 ^ (8 - count) + number_l 256 before =
    is ∙ ap word_of parts ∙ number-append before text ∙ ap (λ k. number_l 256 before + 256 ^ k * word_of text) long ∙ turned_sum (number_l 256 before) (256 ^ (8 - count)) (word_of text) in
    let front : word / 2 ^ (8 * (8 - count)) ≡ word_of text =
    ap (λ p. word / p) (sym power) ∙ ap (λ n. n / 256 ^ (8 - count)) sum ∙ div-mul-add (word_of text) (256 ^ (8 - count)) (number_l 256 before) low in (
      replicate (8 - count) 0,
      (length-append text (replicate (8 - count) 0) ∙ omega (arith, size, length-zeros (8 - count)), each_zeros text (8 - count) (each_back before text whole.1)),
      front ∙ sym (zeros_behind text (8 - count)),
    ) where
      turned_sum : (n p w : ℕ) → n + p * w ≡ w * p + n
      turned_sum n p w = grind arith

      length-zeros : (k : ℕ) → length (replicate {A = ℕ} k 0) ≡ k
      length-zeros zero = refl
      length-zeros (suc k) = ap suc (length-zeros k)

      each_back : (xs ys : List ℕ) → Each1 (λ b. b < 256) (xs ++ ys) → Each1 (λ b. b < 256) ys
      each_back [] ys each = each
      each_back (x ∷ xs) ys each = each_back xs ys each.1

      all_zeros : (k : ℕ) → Each1 (λ b. b < 256) (replicate k 0)
      all_zeros zero = tt
      all_zeros (suc k) = (omega arith, all_zeros k)

      each_zeros : (xs : List ℕ) (k : ℕ) → Each1 (λ b. b < 256) xs → Each1 (λ b. b < 256) (xs ++ replicate k 0)
      each_zeros [] k each = all_zeros k
      each_zeros (x ∷ xs) k each = (each.0, each_zeros xs k each.1)

      zero_word : (k : ℕ) → number_l 256 (replicate k 0) ≡ 0
      zero_word zero = refl
      zero_word (suc k) = omega (arith, zero_word k)

      zeros_behind : (xs : List ℕ) (k : ℕ) → number_l 256 (xs ++ replicate k 0) ≡ number_l 256 xs
      zeros_behind [] k = zero_word k
      zeros_behind (x ∷ xs) k = omega (arith, zeros_behind xs k)

-- the last bytes
pub begins_at_end : (text : List ℕ) (count word : ℕ) → count ≤ 8 → 8 ≤ length text → ((k : ℕ) → k < length text → get_or text k 0 < 256) →
    word ≡ word_of (slice_range text (length text - 8) (length text - 8 + 8)) → BeginsWord (drop (length text - count) text) (word / 2 ^ (8 * (8 - count)))
begins_at_end text count word few long fit is =
    let from : ℕ = length text - count in
    let whole : slice_range text from (length text) ≡ drop from text = take_all (length text - from) (drop from text) (omega (arith, length-drop from text)) in
    let size : length text - from ≡ count = omega arith in
    let begins = begins_behind text from (length text) word (omega arith) (omega arith) long (omega arith) fit is in
    subst (λ k. BeginsWord (drop from text) (word / 2 ^ (8 * (8 - k)))) size (subst (λ t. BeginsWord t (word / 2 ^ (8 * (8 - (length text - from))))) whole begins)
