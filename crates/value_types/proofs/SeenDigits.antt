-- Digits that were counted, as a whole and in two parts.
use Rattle.std.proofs.Common.{◌≡◌, ℕ, zero, suc, ◌+◌, ◌-◌, ◌<◌, ◌≤◌, true, ◌&&◌, List, drop, take, length, get_or, refl, sym, ◌∙◌, ap, arith}
use Rattle.std.specs.Prelude.{slice_range}
use Rattle.std.specs.Char.{is_ascii_digit}
use Rattle.std.specs.List.{list_all, prefix_len}
use Rattle.std.proofs.lemmas.Bool.{and_from, and_parts}
use Rattle.std.proofs.lemmas.List.{take-take}
use Rattle.std.proofs.lemmas.List.Folds.{list_all-append, list_all_more}
use Rattle.std.proofs.lemmas.List.Sums.{prefix_len-le-length, prefix_len_passes}
use Rattle.value_types.specs.Words.{IsWord, word_of}
use Rattle.value_types.proofs.SlicesInBytes.{slice_split}
use Rattle.value_types.proofs.WordTexts.{IsWord-slice}

-- all bytes are digits
abbrev AreDigits : List ℕ → Type 0
AreDigits ds = list_all is_ascii_digit ds ≡ true

-- those before the first that is none
digits_in_front : (text : List ℕ) (n : ℕ) → n ≤ prefix_len is_ascii_digit text → AreDigits (take n text)
digits_in_front text zero le = refl
digits_in_front text (suc n) le =
    let more : suc n ≡ n + 1 = omega arith in
    let below : n < prefix_len is_ascii_digit text = omega (arith, le) in
    ap (λ k. list_all is_ascii_digit (take k text)) more
    ∙ list_all_more is_ascii_digit text n 0 (omega (arith, below, prefix_len-le-length is_ascii_digit text))
    ∙ and_from _ _ (digits_in_front text n (omega (arith, le))) (prefix_len_passes is_ascii_digit text n 0 below)

-- as many as a word begins with
pub digits_counted_at : (bytes : List ℕ) (from count word : ℕ) → from + 8 ≤ length bytes → ((k : ℕ) → k < length bytes → get_or bytes k 0 < 256) →
    word ≡ word_of (slice_range bytes from (from + 8)) → ((text : List ℕ) → IsWord text → word ≡ word_of text → count ≡ prefix_len is_ascii_digit text) → count ≤ 8 →
    AreDigits (slice_range bytes from (from + count))
digits_counted_at bytes from count word within fit same counts few =
    let text : List ℕ = slice_range bytes from (from + 8) in
    let is : count ≡ prefix_len is_ascii_digit text = counts text (IsWord-slice bytes from within fit) same in
    let part : take count text ≡ slice_range bytes from (from + count) =
    (let eight : from + 8 - from ≡ 8 = omega arith in ap (λ n. take count (take n (drop from bytes))) eight)
    ∙ take-take count 8 (drop from bytes) few
    ∙ (let same : count ≡ from + count - from = omega arith in ap (λ n. take n (drop from bytes)) same) in
    ap (list_all is_ascii_digit) (sym part) ∙ digits_in_front text count (omega (arith, is))

module _ (bytes : List ℕ) (from middle end : ℕ) (low : from ≤ middle) (high : middle ≤ end) (within : end ≤ length bytes) where
  two : list_all is_ascii_digit (slice_range bytes from end) ≡ (list_all is_ascii_digit (slice_range bytes from middle) && list_all is_ascii_digit (slice_range bytes middle end))
  two = ap (list_all is_ascii_digit) (slice_split bytes from middle end low high within) ∙ list_all-append is_ascii_digit (slice_range bytes from middle) (slice_range bytes middle end)

  pub digits_joined : AreDigits (slice_range bytes from middle) → AreDigits (slice_range bytes middle end) → AreDigits (slice_range bytes from end)
  digits_joined first second = two ∙ and_from _ _ first second

  pub digits_parts : AreDigits (slice_range bytes from end) → AreDigits (slice_range bytes from middle) × AreDigits (slice_range bytes middle end)
  digits_parts all = and_parts _ _ (sym two ∙ all)
