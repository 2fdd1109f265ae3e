-- Pairs that are added one cell after another.
use Rattle.std.proofs.Common.{◌≡◌, ℕ, zero, suc, ◌+◌, List, [], ◌∷◌, ◌++◌, Bool, true, false, Some, length, take, sym, ap, ◌∙◌, add-zero, arith}
use Rattle.std.specs.Prelude.{slice_get, if◌then◌else◌}
use Rattle.std.specs.List.{list_any}
use Rattle.value_types.specs.Datum.{Datum, null, typed, text}
use Rattle.column_taps.specs.Pairs.{Pair, is_pair, pairs_and_cell, pairs_with}

pairs_suc : (column : ℕ) (pairs : List Pair) (row : List Datum) (k : ℕ) (cell : Datum) → slice_get row k ≡ Some cell
    → pairs_with column pairs (take (suc k) row) ≡ pairs_and_cell (column + k) (pairs_with column pairs (take k row)) cell
pairs_suc column pairs [] k cell at = absurd (let no : ⊥ = cc in no)
pairs_suc column pairs (c ∷ row) zero cell at =
    let same : c ≡ cell = cc in
    λ i. pairs_and_cell (sym (add-zero column) i) pairs (same i)
pairs_suc column pairs (c ∷ row) (suc k) cell at =
    let place : column + 1 + k ≡ column + suc k = omega arith in
    pairs_suc (column + 1) (pairs_and_cell column pairs c) row k cell at ∙ ap (λ n. pairs_and_cell n (pairs_with (column + 1) (pairs_and_cell column pairs c) (take k row)) cell) place

-- one cell more of a row
pub pairs_more : (old now more : List Pair) (row : List Datum) (k : ℕ) (cell : Datum) → slice_get row k ≡ Some cell → now ≡ pairs_with 0 old (take k row) → more ≡ pairs_and_cell k now cell
    → more ≡ pairs_with 0 old (take (k + 1) row)
pairs_more old now more row k cell at is added =
    let one : suc k ≡ k + 1 = omega arith in
    let place : 0 + k ≡ k = omega arith in
    added ∙ (λ i. pairs_and_cell (sym place i) (is i) cell) ∙ sym (pairs_suc 0 old row k cell at) ∙ ap (λ n. pairs_with 0 old (take n row)) one

-- a front stays when something is put behind
kept_behind : (old now more : List Pair) → take (length old) now ≡ old → take (length old) (now ++ more) ≡ old
kept_behind [] [] more is = cc
kept_behind [] (p ∷ now) more is = cc
kept_behind (o ∷ old) [] more is = absurd (let no : ⊥ = cc in no)
kept_behind (o ∷ old) (p ∷ now) more is =
    let first : p ≡ o = cc in
    let rest : take (length old) now ≡ old = cc in
    λ i. first i ∷ kept_behind old now more rest i

kept_either : (there : Bool) (old now : List Pair) (pair : Pair) → take (length old) now ≡ old → take (length old) (if there then now else now ++ pair ∷ []) ≡ old
kept_either true old now pair is = is
kept_either false old now pair is = kept_behind old now (pair ∷ []) is

kept_cell : (old now : List Pair) (k : ℕ) (cell : Datum) → take (length old) now ≡ old → take (length old) (pairs_and_cell k now cell) ≡ old
kept_cell old now k null is = is
kept_cell old now k (typed value) is = is
kept_cell old now k (text bytes) is = kept_either (list_any (is_pair k bytes) now) old now (record { column = k; text = bytes }) is

-- the pairs that were there stay in front
pub pairs-kept : (old now more : List Pair) (k : ℕ) (cell : Datum) → take (length old) now ≡ old → more ≡ pairs_and_cell k now cell → take (length old) more ≡ old
pairs-kept old now more k cell is added = ap (take (length old)) added ∙ kept_cell old now k cell is
