-- Texts whose bytes are put into a block one after another.
use Rattle.std.proofs.Common.{◌≡◌, ℕ, suc, ◌+◌, ◌-◌, ◌<◌, ◌≤◌, List, ◌∷◌, ◌++◌, length, take, drop, Some, sym, ap, ◌∙◌, arith, ◌⊎◌, inl, inr, append_assoc, take-append-drop}
use Rattle.std.specs.Prelude.{flat_map, slice_get, slice_range}
use Rattle.std.proofs.lemmas.List.{drop_more, nil_from_length, take_rest}
use Rattle.std.proofs.lemmas.Bool.{cases_lt}
use Rattle.std.proofs.lemmas.Option.{get_or_from_slice_get, slice_get_within}

abbrev pub flat : List (List ℕ) → List ℕ
flat texts = flat_map (λ text. text) texts

-- the first of some rows
pub first_row : {X : Type 0} (xs : List X) (row rows : ℕ) (x : X) → slice_get xs row ≡ Some x → row < rows → slice_range xs row rows ≡ x ∷ slice_range xs (row + 1) rows
first_row xs row rows x there more =
    let size : rows - row ≡ suc (rows - (row + 1)) = omega (arith, more) in
    (λ i. take (size i) ((drop_more xs row x (slice_get_within xs row x there) ∙ ap (λ y. y ∷ drop (row + 1) xs) (get_or_from_slice_get xs row x x there)) i))

module _ (bytes : List ℕ) (count at : ℕ) (before after : List ℕ) (put : take (at + count) after ≡ take at before ++ take count bytes) where
  -- what is put, and what is left
  front_put : take (at + count) after ++ take (length bytes - count) (drop count bytes) ≡ take at before ++ bytes
  front_put =
      (λ i. put i ++ take_rest bytes count i) ∙ append_assoc (take at before) (take count bytes) (drop count bytes) ∙ ap (λ xs. take at before ++ xs) (take-append-drop count bytes)

  -- the same with what comes behind
  pub front_put_before : (later : List ℕ) → take at before ++ (bytes ++ later) ≡ take (at + count) after ++ (take (length bytes - count) (drop count bytes) ++ later)
  front_put_before later =
      sym (append_assoc (take at before) bytes later) ∙ ap (λ xs. xs ++ later) (sym front_put) ∙ append_assoc (take (at + count) after) (take (length bytes - count) (drop count bytes)) later

-- the first bytes are put
pub begun : (bytes later : List ℕ) (count : ℕ) (before after : List ℕ) → take (0 + count) after ≡ take 0 before ++ take count bytes
    → bytes ++ later ≡ take count after ++ (take (length bytes - count) (drop count bytes) ++ later)
begun bytes later count before after put =
    let none : 0 + count ≡ count = omega arith in
    front_put_before bytes count 0 before after put later ∙ ap (λ n. take n after ++ (take (length bytes - count) (drop count bytes) ++ later)) none

-- a further text is put
pub text_put : (whole pending : List ℕ) (texts : List (List ℕ)) (row rows : ℕ) (text : List ℕ) (count at : ℕ) (before after : List ℕ) → slice_get texts row ≡ Some text → row < rows → length pending ≡ 0
    → take (at + count) after ≡ take at before ++ take count text → whole ≡ take at before ++ (pending ++ flat (slice_range texts row rows))
    → whole ≡ take (at + count) after ++ (take (length text - count) (drop count text) ++ flat (slice_range texts (row + 1) rows))
text_put whole pending texts row rows text count at before after there more empty put so_far =
    so_far ∙ (λ i. take at before ++ (nil_from_length pending empty i ++ flat (first_row texts row rows text there more i)))
    ∙ front_put_before text count at before after put (flat (slice_range texts (row + 1) rows))

-- some rows or some bytes have come out
pub text_moved : (old row rows at left pending : ℕ) → (old < rows) ⊎ (0 < pending) → old ≤ row → row ≤ rows → (row ≡ old → left + at ≡ pending) → (0 < pending → 0 < at) → (0 < left) ⊎ (rows ≤ row)
    → rows - row < rows - old + at
text_moved old row rows at left pending (inr bytes) low high first some end = let more : 0 < at = some bytes in omega (arith, more, low, high)
text_moved old row rows at left pending (inl behind) low high first some end = elim (cases_lt old row) [
  | inl later ↦ omega (arith, later, high)
  | inr same ↦
      let here : row ≡ old = omega (arith, same, low) in
      let count : left + at ≡ pending = first here in
      elim end [
        | inl left_some ↦ (let more : 0 < at = some (omega (arith, left_some, count)) in omega (arith, more, low, high))
        | inr none ↦ absurd (let no : ⊥ = omega (arith, none, here, behind) in no)
      ]
]
