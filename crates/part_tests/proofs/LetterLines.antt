-- Rows of a byte each, whose line is that byte alone.
use Rattle.std.proofs.Common.{◌≡◌, ℕ, ◌+◌, ◌<◌, List, [], ◌∷◌, ◌++◌, length, map, get_or, refl, sym, ◌∙◌, ap, arith}
use Rattle.std.specs.Prelude.{flat_map, slice_range}
use Rattle.std.specs.List.{concat}
use Rattle.std.proofs.lemmas.List.{get_or-map}
use Rattle.text_pieces.proofs.Ranges.{range-more, range-none}
use Rattle.text_pieces.proofs.RowTexts.{lines-range}

abbrev pub letter_line : ℕ → List ℕ
letter_line letter = letter ∷ []

alone : (letters : List ℕ) → flat_map letter_line letters ≡ letters
alone [] = refl
alone (letter ∷ letters) = ap (λ rest. letter ∷ rest) (alone letters)

pub letters-range : (letters : List ℕ) (from to : ℕ) → concat (slice_range (map letter_line letters) from to) ≡ slice_range letters from to
letters-range letters from to = lines-range letter_line letters from to ∙ alone (slice_range letters from to)

pub letter-at : (letters : List ℕ) (row : ℕ) → row < length letters → slice_range letters row (row + 1) ≡ get_or (map letter_line letters) row []
letter-at letters row within =
    range-more letters row row 0 (omega arith) within
    ∙ ap (λ xs. xs ++ get_or letters row 0 ∷ []) (range-none letters row row refl)
    ∙ sym (get_or-map letter_line letters row 0 [] within)
