-- Texts and lines that are written straight to a sink: what is left of them.
use Rattle.std.proofs.Common.{◌≡◌, ℕ, zero, suc, ◌+◌, ◌-◌, ◌≤◌, cond, List, [], ◌∷◌, ◌++◌, map, length, drop, refl, sym, ◌∙◌, ap, arith, append_assoc, append-nil, Some, inl, inr}
use Rattle.std.specs.Prelude.{slice_get, slice_range}
use Rattle.std.specs.List.{join_with_byte}
use Rattle.std.proofs.lemmas.Bool.{cases_lt, eq-eqb, ne_eqb}
use Rattle.std.proofs.lemmas.List.{drop_all}
use Rattle.csv_writer.specs.Quoting.{doubled, quote_at, quote_free}
use Rattle.csv_writer.specs.Steps.{comma_before}
use Rattle.csv_writer.proofs.Doubling.{quote_doubled, run_doubled, run_stops}
use Rattle.csv_writer.proofs.Lines.{comma_some}

-- ---- texts

none-left : (text : List ℕ) (end : ℕ) → length text ≤ end → doubled (drop end text) ≡ []
none-left text end past = ap doubled (drop_all end text past)

-- what becomes of a quote, and what stands behind it
behind-quote : (text : List ℕ) (at end : ℕ) → end ≡ at + quote_free (drop at text) → end ≤ length text → quote_at end text ++ doubled (drop (end + 1) text) ≡ doubled (drop end text)
behind-quote text at end is within = elim (cases_lt end (length text)) [
  | inl lt ↦
      ap (λ t. cond t [] (34 ∷ 34 ∷ []) ++ doubled (drop (end + 1) text)) (ne_eqb end (length text) (λ e. omega (arith, lt, e)))
      ∙ quote_doubled [] (34 ∷ 34 ∷ []) text end lt (run_stops text at end is lt) refl
  | inr past ↦
      (let all : end ≡ length text = omega (arith, past, within) in
      ap (λ t. cond t [] (34 ∷ 34 ∷ []) ++ doubled (drop (end + 1) text)) (eq-eqb end (length text) all)
      ∙ none-left text (end + 1) (omega (arith, past)) ∙ sym (none-left text end past))
]

-- a stretch of a text, and what stands behind it
pub doubled-stretch : (text : List ℕ) (at end : ℕ) → end ≡ at + quote_free (drop at text) → end ≤ length text →
    doubled (drop at text) ≡ (slice_range text at end ++ quote_at end text) ++ doubled (drop (end + 1) text)
doubled-stretch text at end is within =
    sym (run_doubled [] (slice_range text at end) text at end (end - at) (omega (arith, is)) (omega (arith, is)) refl)
    ∙ ap (λ rest. slice_range text at end ++ rest) (sym (behind-quote text at end is within))
    ∙ sym (append_assoc (slice_range text at end) (quote_at end text) (doubled (drop (end + 1) text)))

pub doubled-none : (text : List ℕ) (at : ℕ) → length text ≤ at → doubled (drop at text) ≡ []
doubled-none text at past = none-left text at past

-- ---- lines

-- fields from a column on, each with the comma before it
abbrev pub fields_from : ℕ → List (List ℕ) → List ℕ
fields_from column [] = []
fields_from column (field ∷ fields) = (comma_before column ++ field) ++ fields_from (suc column) fields

joined-from : (column : ℕ) (first : List ℕ) (fields : List (List ℕ)) → join_with_byte 44 (first ∷ fields) ≡ first ++ fields_from (suc column) fields
joined-from column first [] = sym (append-nil first)
joined-from column first (next ∷ fields) =
    ap (λ rest. first ++ 44 ∷ rest) (joined-from (suc column) next fields)
    ∙ ap (λ comma. first ++ ((comma ++ next) ++ fields_from (suc (suc column)) fields)) (sym (comma_some column))

-- a line whose fields are all left
pub line-left : (fields : List (List ℕ)) → join_with_byte 44 fields ++ 10 ∷ [] ≡ fields_from 0 fields ++ 10 ∷ []
line-left [] = refl
line-left (first ∷ fields) = ap (λ text. text ++ 10 ∷ []) (joined-from 0 first fields)

drop-at : {X : Type 0} (xs : List X) (k : ℕ) (x : X) → slice_get xs k ≡ Some x → drop k xs ≡ x ∷ drop (suc k) xs
drop-at [] k x at = absurd (let no : ⊥ = cc in no)
drop-at (y ∷ xs) zero x at = let same : y ≡ x = cc in ap (λ z. z ∷ xs) same
drop-at (y ∷ xs) (suc k) x at = drop-at xs k x at

-- the next field, and what stands behind it
pub field-left : {X : Type 0} (f : X → List ℕ) (xs : List X) (k : ℕ) (x : X) → slice_get xs k ≡ Some x →
    fields_from k (map f (drop k xs)) ++ 10 ∷ [] ≡ (comma_before k ++ f x) ++ (fields_from (k + 1) (map f (drop (k + 1) xs)) ++ 10 ∷ [])
field-left f xs k x at =
    let one : suc k ≡ k + 1 = omega arith in
    ap (λ ys. fields_from k (map f ys) ++ 10 ∷ []) (drop-at xs k x at)
    ∙ append_assoc (comma_before k ++ f x) (fields_from (suc k) (map f (drop (suc k) xs))) (10 ∷ [])
    ∙ ap (λ n. (comma_before k ++ f x) ++ (fields_from n (map f (drop n xs)) ++ 10 ∷ [])) one

pub end-left : {X : Type 0} (f : X → List ℕ) (xs : List X) (k : ℕ) → length xs ≤ k → fields_from k (map f (drop k xs)) ++ 10 ∷ [] ≡ 10 ∷ []
end-left f xs k past = ap (λ ys. fields_from k (map f ys) ++ 10 ∷ []) (drop_all k xs past)

-- ---- tests

-- a quote before the end is doubled
pub quote-at : (end : ℕ) (text : List ℕ) → (end ≡ length text → ⊥) → 34 ∷ 34 ∷ [] ≡ quote_at end text
quote-at end text inside = ap (λ t. cond t [] (34 ∷ 34 ∷ [])) (sym (ne_eqb end (length text) inside))

-- a comma stands before each field but the first
pub comma-at : (column : ℕ) → (column ≡ 0 → ⊥) → 44 ∷ [] ≡ comma_before column
comma-at column behind = ap (λ t. cond t [] (44 ∷ [])) (sym (ne_eqb column 0 behind))
