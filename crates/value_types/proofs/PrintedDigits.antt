-- Digits that are printed in words: eight with zeros in front, and those of a number alone.
use Rattle.std.proofs.Common.{◌≡◌, ℕ, zero, suc, ◌+◌, ◌-◌, ◌*◌, ◌/◌, ◌%◌, ◌^◌, ◌<◌, ◌≤◌, refl, sym, ap, ◌∙◌, subst, arith, List, [], ◌∷◌, ◌++◌, length, length-append, replicate, inl, inr}
use Rattle.std.specs.Fmt.{decimal}
use Rattle.std.specs.Simd.Lanes.{Each1}
use Rattle.std.proofs.lemmas.Bool.{cases_lt}
use Rattle.std.proofs.lemmas.Fmt.{decimal_digit, decimal_step}
use Rattle.std.proofs.lemmas.Nat.{div-mul-add}
use Rattle.value_types.specs.ValueText.{padded}
use Rattle.value_types.specs.Words.{word_of}
use Rattle.value_types.proofs.Padded.{glyph, padded_more, four_digits}
use Rattle.value_types.proofs.WordTexts.{number-append, number-below, shift_facts}

-- ---- four and eight digits

-- the digits of a number below 10,000, by pairs
abbrev pub four_of : ℕ → List ℕ
four_of n = glyph (n / 100 / 10) ∷ glyph (n / 100 % 10) ∷ glyph (n % 100 / 10) ∷ glyph (n % 100 % 10) ∷ []

pub four_written : (n : ℕ) → n < 10_000 → padded 4 n ≡ four_of n
four_written n h =
    let a : n / 1000 ≡ n / 100 / 10 = omega arith in
    let c : n / 10 % 10 ≡ n % 100 / 10 = omega arith in
    let d : n % 10 ≡ n % 100 % 10 = omega arith in
    four_digits n h ∙ (λ i. glyph (a i) ∷ glyph (n / 100 % 10) ∷ glyph (c i) ∷ glyph (d i) ∷ [])

pub eight_written : (n : ℕ) → n < 100_000_000 → padded 8 n ≡ padded 4 (n / 10_000) ++ padded 4 (n % 10_000)
eight_written n h =
    let high : n / 10 / 10 / 10 / 10 ≡ n / 10_000 = omega arith in
    let e : n / 10 / 10 / 10 % 10 ≡ n % 10_000 / 1000 = omega arith in
    let f : n / 10 / 10 % 10 ≡ n % 10_000 / 100 % 10 = omega arith in
    let g : n / 10 % 10 ≡ n % 10_000 / 10 % 10 = omega arith in
    let k : n % 10 ≡ n % 10_000 % 10 = omega arith in
    padded_more 7 n (omega arith) (omega arith)
    ∙ ap (λ ds. ds ++ glyph (n % 10) ∷ []) (padded_more 6 (n / 10) (omega arith) (omega arith))
    ∙ ap (λ ds. (ds ++ glyph (n / 10 % 10) ∷ []) ++ glyph (n % 10) ∷ []) (padded_more 5 (n / 10 / 10) (omega arith) (omega arith))
    ∙ ap (λ ds. ((ds ++ glyph (n / 10 / 10 % 10) ∷ []) ++ glyph (n / 10 % 10) ∷ []) ++ glyph (n % 10) ∷ []) (padded_more 4 (n / 10 / 10 / 10) (omega arith) (omega arith))
    ∙ (λ i. (((padded 4 (high i) ++ glyph (e i) ∷ []) ++ glyph (f i) ∷ []) ++ glyph (g i) ∷ []) ++ glyph (k i) ∷ [])
    ∙ behind (padded 4 (n / 10_000)) _ _ _ _
    ∙ ap (λ ds. padded 4 (n / 10_000) ++ ds) (sym (four_digits (n % 10_000) (omega arith))) where
      behind : (xs : List ℕ) (a b c d : ℕ) → (((xs ++ a ∷ []) ++ b ∷ []) ++ c ∷ []) ++ d ∷ [] ≡ xs ++ a ∷ b ∷ c ∷ d ∷ []
      behind [] a b c d = refl
      behind (x ∷ xs) a b c d = ap (λ ys. x ∷ ys) (behind xs a b c d)

pub four_word : (n a b : ℕ) → n < 10_000 → a ≡ (48 + n / 100 / 10) + 256 * (48 + n / 100 % 10) → b ≡ (48 + n % 100 / 10) + 256 * (48 + n % 100 % 10)
    → a + b * 65_536 ≡ word_of (padded 4 n)
four_word n a b h ea eb = joined a b _ _ _ _ ea eb ∙ sym (ap word_of (four_written n h)) where
  joined : (a b p q r s : ℕ) → a ≡ (48 + p) + 256 * (48 + q) → b ≡ (48 + r) + 256 * (48 + s) → a + b * 65_536 ≡ word_of (glyph p ∷ glyph q ∷ glyph r ∷ glyph s ∷ [])
  joined a b p q r s ea eb = omega (arith, ea, eb)

pub eight_word : (n a b : ℕ) → n < 100_000_000 → a ≡ word_of (padded 4 (n / 10_000)) → b ≡ word_of (padded 4 (n % 10_000)) → a + b * 4_294_967_296 ≡ word_of (padded 8 n)
eight_word n a b h ea eb =
    let four : length (padded 4 (n / 10_000)) ≡ 4 = ap length (four_written (n / 10_000) (omega arith)) in
    (λ i. ea i + eb i * 4_294_967_296)
    ∙ turned (word_of (padded 4 (n / 10_000))) (word_of (padded 4 (n % 10_000)))
    ∙ ap (λ k. word_of (padded 4 (n / 10_000)) + 256 ^ k * word_of (padded 4 (n % 10_000))) (sym four)
    ∙ sym (number-append (padded 4 (n / 10_000)) (padded 4 (n % 10_000)))
    ∙ ap word_of (sym (eight_written n h)) where
      turned : (x y : ℕ) → x + y * 4_294_967_296 ≡ x + 256 ^ 4 * y
      turned x y = omega arith

-- ---- how many

one : (n : ℕ) → n < 10 → length (decimal n) ≡ 1
one n low = ap length (decimal_digit n low)

more : (n k : ℕ) → 10 ≤ n → n < 10_000_000 → length (decimal (n / 10)) ≡ k → length (decimal n) ≡ 1 + k
more n k high small is =
    ap length (decimal_step n high (omega arith)) ∙ length-append (decimal (n / 10)) (glyph (n % 10) ∷ []) ∙ omega (arith, is)

two : (n : ℕ) → 10 ≤ n → n < 100 → length (decimal n) ≡ 2
two n low high = more n 1 low (omega arith) (one (n / 10) (omega arith))

three : (n : ℕ) → 100 ≤ n → n < 1000 → length (decimal n) ≡ 3
three n low high = more n 2 (omega arith) (omega arith) (two (n / 10) (omega arith) (omega arith))

four : (n : ℕ) → 1000 ≤ n → n < 10_000 → length (decimal n) ≡ 4
four n low high = more n 3 (omega arith) (omega arith) (three (n / 10) (omega arith) (omega arith))

five : (n : ℕ) → 10_000 ≤ n → n < 100_000 → length (decimal n) ≡ 5
five n low high = more n 4 (omega arith) (omega arith) (four (n / 10) (omega arith) (omega arith))

six : (n : ℕ) → 100_000 ≤ n → n < 1_000_000 → length (decimal n) ≡ 6
six n low high = more n 5 (omega arith) (omega arith) (five (n / 10) (omega arith) (omega arith))

seven : (n : ℕ) → 1_000_000 ≤ n → n < 10_000_000 → length (decimal n) ≡ 7
seven n low high = more n 6 (omega arith) (omega arith) (six (n / 10) (omega arith) (omega arith))

-- one where a number is at least another, else nothing
pub record IsReached (least n reached : ℕ) : Type 0 where
  pub one : least ≤ n → reached ≡ 1
  pub none : n < least → reached ≡ 0

pub digits_counted_by_steps : (n a b c d e f : ℕ) → n < 10_000_000 → IsReached 10 n a → IsReached 100 n b → IsReached 1000 n c → IsReached 10_000 n d → IsReached 100_000 n e → IsReached 1_000_000 n f →
    1 + a + b + c + d + e + f ≡ length (decimal n)
digits_counted_by_steps n a b c d e f small A B C D E F = elim (cases_lt n 10) [
  | inl low ↦ omega (arith, one n low, A.none low, B.none (omega arith), C.none (omega arith), D.none (omega arith), E.none (omega arith), F.none (omega arith))
  | inr some ↦ elim (cases_lt n 100) [
    | inl low ↦ omega (arith, two n some low, A.one some, B.none low, C.none (omega arith), D.none (omega arith), E.none (omega arith), F.none (omega arith))
    | inr some ↦ elim (cases_lt n 1000) [
      | inl low ↦ omega (arith, three n some low, A.one (omega arith), B.one some, C.none low, D.none (omega arith), E.none (omega arith), F.none (omega arith))
      | inr some ↦ elim (cases_lt n 10_000) [
        | inl low ↦ omega (arith, four n some low, A.one (omega arith), B.one (omega arith), C.one some, D.none low, E.none (omega arith), F.none (omega arith))
        | inr some ↦ elim (cases_lt n 100_000) [
          | inl low ↦ omega (arith, five n some low, A.one (omega arith), B.one (omega arith), C.one (omega arith), D.one some, E.none low, F.none (omega arith))
          | inr some ↦ elim (cases_lt n 1_000_000) [
            | inl low ↦ omega (arith, six n some low, A.one (omega arith), B.one (omega arith), C.one (omega arith), D.one (omega arith), E.one some, F.none low)
            | inr some ↦ omega (arith, seven n some small, A.one (omega arith), B.one (omega arith), C.one (omega arith), D.one (omega arith), E.one (omega arith), F.one some)
          ]
        ]
      ]
    ]
  ]
]

pub few_digits_counted : (n a b c : ℕ) → n < 10_000 → IsReached 10 n a → IsReached 100 n b → IsReached 1000 n c → 1 + a + b + c ≡ length (decimal n)
few_digits_counted n a b c small A B C =
    let all = digits_counted_by_steps n a b c 0 0 0 (omega arith) A B C (none 10_000 small) (none 100_000 (omega arith)) (none 1_000_000 (omega arith)) in omega (arith, all) where
      none : (least : ℕ) → n < least → IsReached least n 0
      none least low = record { one = λ high. absurd (let no : ⊥ = omega (arith, low, high) in no); none = λ l. refl }

-- ---- the last bytes of a word

abbrev pub zeros : ℕ → List ℕ
zeros k = replicate k (glyph 0)

pub zeros_below : (k : ℕ) → Each1 (λ b. b < 256) (zeros k)
zeros_below zero = tt
zeros_below (suc k) = (omega arith, zeros_below k)

zeros_long : (k : ℕ) → length (zeros k) ≡ k
zeros_long zero = refl
zeros_long (suc k) = ap suc (zeros_long k)

pub power : (k : ℕ) → k ≤ 8 → 256 ^ k ≡ 2 ^ (8 * k)
power k few =
    let back : 8 - (8 - k) ≡ k = omega (arith, few) in
    (λ i. 256 ^ sym back i) ∙ (shift_facts (8 - k) (omega arith)).1 ∙ (λ i. 2 ^ (8 * back i))

last_bytes : (k word : ℕ) (text : List ℕ) → k ≤ 8 → word ≡ word_of (zeros k ++ text) → word / 2 ^ (8 * k) ≡ word_of text
last_bytes k word text few is =
    let low : word_of (zeros k) < 256 ^ k = subst (λ j. word_of (zeros k) < 256 ^ j) (zeros_long k) (number-below (zeros k) (zeros_below k)) in
    let sum : word ≡ word_of text * 256 ^ k + word_of (zeros k) =
    is ∙ number-append (zeros k) text ∙ ap (λ j. word_of (zeros k) + 256 ^ j * word_of text) (zeros_long k) ∙ turned (word_of (zeros k)) (256 ^ k) (word_of text) in
    ap (λ p. word / p) (sym (power k few)) ∙ ap (λ n. n / 256 ^ k) sum ∙ div-mul-add (word_of text) (256 ^ k) (word_of (zeros k)) low where
      turned : (n p w : ℕ) → n + p * w ≡ w * p + n
      turned n p w = grind arith

-- a number's digits alone, of as many as were written with zeros
pub digits_alone : (width n c word : ℕ) → width ≤ 8 → c ≡ length (decimal n) → word ≡ word_of (padded width n) → word / 2 ^ (8 * (width - c)) ≡ word_of (decimal n)
digits_alone width n c word few long is =
    last_bytes (width - c) word (decimal n) (omega arith) (is ∙ ap (λ k. word_of (zeros (width - k) ++ decimal n)) (sym long))
