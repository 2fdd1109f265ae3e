-- Texts of a few bytes as words and blocks, and the digits that are printed in them.
use Rattle.std.proofs.Common.{◌≡◌, ℕ, suc, ◌+◌, ◌-◌, ◌*◌, ◌/◌, ◌%◌, ◌^◌, ◌<◌, Bool, ◌&&◌, T, eqb, eqb-true, refl, ap, ◌∙◌, arith, List, [], ◌∷◌, ◌++◌, length, take, get_or}
use Rattle.std.specs.Simd.Lanes.{Each1, digits_l, number_l}
use Rattle.std.proofs.Math.Seq.{take-append-add}
use lib.Ieee.Fits.{and_l, and_r}
use Rattle.value_types.specs.declared.digit_words.TheConstants.{PAIRS}
use Rattle.value_types.specs.Words.{IsBlock, word_of}
use Rattle.value_types.proofs.WordDigits.{t_true}
use Rattle.value_types.proofs.WordLanes.{every_below}

-- ---- the table

abbrev are_digits : ℕ → Bool
are_digits p = eqb (get_or PAIRS (p * 2) 0) (48 + p / 10) && eqb (get_or PAIRS (p * 2 + 1) 0) (48 + p % 10)

pub pair_at : (p : ℕ) → p < 100 → (get_or PAIRS (p * 2) 0 ≡ 48 + p / 10) × (get_or PAIRS (p * 2 + 1) 0 ≡ 48 + p % 10)
pair_at p low =
    let t : T (are_digits p) = every_below are_digits 100 tt p low in (
      eqb-true (get_or PAIRS (p * 2) 0) (48 + p / 10) (t_true _ (and_l (eqb (get_or PAIRS (p * 2) 0) (48 + p / 10)) (eqb (get_or PAIRS (p * 2 + 1) 0) (48 + p % 10)) t)),
      eqb-true (get_or PAIRS (p * 2 + 1) 0) (48 + p % 10) (t_true _ (and_r (eqb (get_or PAIRS (p * 2) 0) (48 + p / 10)) (eqb (get_or PAIRS (p * 2 + 1) 0) (48 + p % 10)) t)),
    )

-- ---- the bytes of a block

first_bytes : (text : List ℕ) (k : ℕ) → Each1 (λ b. b < 256) text → take (length text) (digits_l 256 (length text + k) (word_of text)) ≡ text
first_bytes [] k each = refl
first_bytes (b ∷ text) k each =
    let more : suc (length text) + k ≡ suc (length text + k) = omega arith in
    let here : (b + 256 * word_of text) % 256 ≡ b = omega (arith, each.0) in
    let rest : (b + 256 * word_of text) / 256 ≡ word_of text = omega (arith, each.0) in
    ap (λ n. take (suc (length text)) (digits_l 256 n (b + 256 * word_of text))) more
    ∙ (λ i. here i ∷ take (length text) (digits_l 256 (length text + k) (rest i)))
    ∙ ap (λ xs. b ∷ xs) (first_bytes text k each.1)

-- a block behind other bytes, of which as many are kept as the text has
pub block_kept : (old new kept bytes text : List ℕ) (block low high n : ℕ) → IsBlock text block → low ≡ block % 2 ^ 64 → high ≡ block / 2 ^ 64 →
    bytes ≡ digits_l 256 16 (number_l (2 ^ 64) (low ∷ high ∷ [])) → new ≡ old ++ bytes → n ≡ length old + length text → kept ≡ take n new → kept ≡ old ++ text
block_kept old new kept bytes text block low high n is first second are grown count cut =
    let whole : 16 ≡ length text + (16 - length text) = omega (arith, is.short) in
    let both : number_l (2 ^ 64) (low ∷ high ∷ []) ≡ block = omega (arith, first, second) in
    cut
    ∙ (λ i. take (count i) (grown i))
    ∙ take-append-add old bytes (length text)
    ∙ ap (λ xs. old ++ take (length text) xs) (are ∙ ap (digits_l 256 16) (both ∙ is.makes) ∙ ap (λ k. digits_l 256 k (word_of text)) whole)
    ∙ ap (λ xs. old ++ xs) (first_bytes text (16 - length text) is.bytes)
