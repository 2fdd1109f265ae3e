-- Runs of ordinary bytes: their masks, their lengths and their texts.
use Rattle.std.proofs.Common.{◌≡◌, ℕ, zero, suc, ◌+◌, ◌-◌, ◌<◌, ◌≤◌, Bool, true, false, cond, ◌||◌, List, [], ◌∷◌, ◌++◌, length, take, drop, refl, sym, ◌∙◌, ap, ap₂, arith, append_assoc, eqb, ltb, get_or, drop-cons, append-nil, length-drop}
use Rattle.std.specs.Prelude.{slice_range}
use Rattle.std.specs.List.{prefix_len}
use Rattle.std.proofs.lemmas.Bool.{ltb-false, ne_eqb, not-true, or_parts}
use Rattle.std.proofs.lemmas.List.{drop-drop, drop_all}
use Rattle.csv_source.specs.Shown.{shown, shown_byte}
use Rattle.report_text.specs.Ordinary.{is_ordinary, is_spelled}

-- an ordinary byte stands for itself
plain_byte : (x : ℕ) → is_ordinary x ≡ true → shown_byte x ≡ x ∷ []
plain_byte x h =
    let four = or_parts ((eqb x 92 || eqb x 124) || eqb x 127) (ltb x 32) (not-true (is_spelled x) h) in
    let three = or_parts (eqb x 92 || eqb x 124) (eqb x 127) four.0 in
    let two = or_parts (eqb x 92) (eqb x 124) three.0 in
    let high : 32 ≤ x = ltb-false x 32 four.1 in
    let a : eqb x 92 ≡ false = two.0 in
    let b : eqb x 124 ≡ false = two.1 in
    let c : eqb x 10 ≡ false = ne_eqb x 10 (λ e. omega (arith, e, high)) in
    let d : eqb x 13 ≡ false = ne_eqb x 13 (λ e. omega (arith, e, high)) in
    let e : eqb x 9 ≡ false = ne_eqb x 9 (λ e. omega (arith, e, high)) in
    let f : ltb x 32 ≡ false = four.1 in
    let g : eqb x 127 ≡ false = three.1 in
    rw (a, b, c, d, e, f, g) refl

front : (b : Bool) (k n : ℕ) → suc k ≤ cond b (1 + n) 0 → (b ≡ true) × (k ≤ n)
front true k n h = (refl, omega (arith, h))
front false k n h = absurd (let no : ⊥ = omega (arith, h) in no)

-- a part of a run stands for itself
shown_run : (k : ℕ) (xs : List ℕ) → k ≤ prefix_len is_ordinary xs → shown xs ≡ take k xs ++ shown (drop k xs)
shown_run zero xs h = refl
shown_run (suc k) [] h = refl
shown_run (suc k) (x ∷ xs) h =
    let fits = front (is_ordinary x) k (prefix_len is_ordinary xs) h in
    ap₂ (λ a b. a ++ b) (plain_byte x fits.0) (shown_run k xs fits.1)

-- a run that was appended, with what stands behind it
pub run_text : (old new bytes : List ℕ) (at end k : ℕ) → end ≡ at + k → k ≤ prefix_len is_ordinary (drop at bytes) → new ≡ old ++ take k (drop at bytes)
    → new ++ shown (drop end bytes) ≡ old ++ shown (drop at bytes)
run_text old new bytes at end k is fits text =
    (λ i. text i ++ shown (drop (is i) bytes)) ∙ ap (λ rest. (old ++ take k (drop at bytes)) ++ shown rest) (sym (drop-drop k at bytes))
    ∙ append_assoc old (take k (drop at bytes)) (shown (drop k (drop at bytes))) ∙ ap (λ xs. old ++ xs) (sym (shown_run k (drop at bytes) fits))

-- a byte that was appended as it is shown, with what stands behind it
pub byte_text : (new newer bytes : List ℕ) (end : ℕ) → end < length bytes → newer ≡ new ++ shown_byte (get_or bytes end 0)
    → newer ++ shown (drop (end + 1) bytes) ≡ new ++ shown (drop end bytes)
byte_text new newer bytes end lt text =
    let one : end + 1 ≡ suc end = omega arith in
    (λ i. text i ++ shown (drop (one i) bytes)) ∙ append_assoc new (shown_byte (get_or bytes end 0)) (shown (drop (suc end) bytes))
    ∙ ap (λ xs. new ++ shown xs) (sym (drop-cons bytes end 0 lt))

-- ---- what stands from a place on, cut behind its run of ordinary bytes

pub run_ahead : (bytes : List ℕ) (at end : ℕ) → end ≡ at + prefix_len is_ordinary (drop at bytes) → shown (drop at bytes) ≡ slice_range bytes at end ++ shown (drop end bytes)
run_ahead bytes at end is =
    let count : end - at ≡ prefix_len is_ordinary (drop at bytes) = omega (arith, is) in
    let place : at + (end - at) ≡ end = omega (arith, is) in
    shown_run (end - at) (drop at bytes) (omega (arith, count))
    ∙ ap (λ rest. take (end - at) (drop at bytes) ++ shown rest) (drop-drop (end - at) at bytes ∙ ap (λ k. drop k bytes) place)

pub byte_ahead : (bytes : List ℕ) (end : ℕ) → end < length bytes → shown (drop end bytes) ≡ shown_byte (get_or bytes end 0) ++ shown (drop (end + 1) bytes)
byte_ahead bytes end lt = let one : suc end ≡ end + 1 = omega arith in ap shown (drop-cons bytes end 0 lt ∙ ap (λ k. get_or bytes end 0 ∷ drop k bytes) one)

-- a run that ends with the bytes
pub run_last : (bytes : List ℕ) (at end : ℕ) → end ≡ at + prefix_len is_ordinary (drop at bytes) → length bytes ≤ end → shown (drop at bytes) ≡ slice_range bytes at (length bytes)
run_last bytes at end is last =
    let rest : List ℕ = drop at bytes in
    let n : ℕ = length bytes - at in
    let long : length rest ≡ n = length-drop at bytes in
    shown_run n rest (omega (arith, is, last)) ∙ ap (λ xs. take n rest ++ shown xs) (drop_all n rest (omega (arith, long))) ∙ append-nil (take n rest)
