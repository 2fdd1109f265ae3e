-- Rows of a block, counted by the bits of a mask, and of what is left behind it.
use Rattle.std.proofs.Common.{◌≡◌, ℕ, zero, suc, ◌+◌, ◌^◌, ◌<◌, ◌≤◌, Bool, true, false, cond, not, ◌&&◌, ◌||◌, List, [], ◌∷◌, ◌++◌, take, drop, length, get_or, refl, sym, ◌∙◌, ap, subst, arith, add_assoc, zero-add}
use Rattle.std.specs.Prelude.{◌==◌}
use Rattle.std.specs.Int.{bit_at}
use Rattle.std.specs.Int.RustNames.{count_ones}
use Rattle.std.proofs.lemmas.List.{drop-drop, take-append-drop}
use Rattle.std.proofs.lemmas.Nat.Bits.{same_from_bits_below}
use Rattle.std.proofs.lemmas.Simd.{bit_mask_l, mask_l-lt, ones-mask_l_cons}
use lib.Lanes.{mask_l, chunk}
use Rattle.byte_classes.specs.Class.{class_of, is_line_end}
use Rattle.byte_classes.specs.Dialect.{Marks}
use Rattle.byte_classes.specs.Masks.{HasBits}
use Rattle.quote_automaton.specs.declared.state.State.{State}
use Rattle.quote_automaton.specs.Automaton.{state_after, state_at, step}
use Rattle.quote_automaton.specs.Counted.{HasRowStarts, is_set}
use Rattle.quote_automaton.specs.Rows.{is_row_start}
use Rattle.quote_automaton.proofs.CountedBits.{set_is}
use Rattle.part_cuts.specs.Cut.{counts_row}
use Rattle.part_cuts.specs.Passed.{rows_begun}

module _ (d : Marks) (columns : ℕ) where
  -- at which bytes of a list a row that counts begins
  tests : State → List ℕ → List Bool
  tests s [] = []
  tests s (b ∷ bytes) = counts_row columns s (class_of d b) ∷ tests (step d s b) bytes

  length-tests : (s : State) (bytes : List ℕ) → length (tests s bytes) ≡ length bytes
  unfolding tests
  length-tests s [] = refl
  length-tests s (b ∷ bytes) = ap suc (length-tests (step d s b) bytes)

  get_or-tests : (s : State) (bytes : List ℕ) (i : ℕ) → i < length bytes → get_or (tests s bytes) i false ≡ counts_row columns (state_at d s bytes i) (class_of d (get_or bytes i 0))
  unfolding tests
  get_or-tests s [] i lt = absurd (let no : ⊥ = omega (arith, lt) in no)
  get_or-tests s (b ∷ bytes) zero lt = refl
  get_or-tests s (b ∷ bytes) (suc i) lt = get_or-tests (step d s b) bytes i (omega (arith, lt))

  ones-tests : (s : State) (bytes : List ℕ) → count_ones (mask_l (tests s bytes)) ≡ rows_begun d columns s bytes
  unfolding tests count_ones
  ones-tests s [] = refl
  ones-tests s (b ∷ bytes) = ones-mask_l_cons (counts_row columns s (class_of d b)) (tests (step d s b) bytes) ∙ ap (λ n. cond (counts_row columns s (class_of d b)) 1 0 + n) (ones-tests (step d s b) bytes)

  -- a mask with these bits has as many as rows begin
  pub ones_of_block : (s : State) (block : List ℕ) (begins line_ends m : ℕ) → length block ≡ 64 → m < 2 ^ 64 → HasRowStarts d s block begins → HasBits (λ b. is_line_end (class_of d b)) block line_ends →
      ((i : ℕ) → i < 64 → bit_at m i ≡ cond (is_set begins i && (not (is_set line_ends i) || columns == 1)) 1 0) → count_ones m ≡ rows_begun d columns s block
  ones_of_block s block begins line_ends m long small has_begins has_ends bits =
      let ms : List Bool = tests s block in
      let count : length ms ≡ 64 = length-tests s block ∙ long in
      let fits : mask_l ms < 2 ^ 64 = subst (λ n. mask_l ms < 2 ^ n) count (mask_l-lt ms) in
      let same : (i : ℕ) → i < 64 → bit_at m i ≡ bit_at (mask_l ms) i = λ i lt.
      bits i lt
      ∙ (λ j. cond {A = ℕ} (set_is begins i (is_row_start d s block i) (has_begins i lt) j && (not (set_is line_ends i (is_line_end (class_of d (get_or block i 0))) (has_ends i lt) j) || columns == 1)) 1 0)
      ∙ ap (λ (t : Bool). cond {A = ℕ} t 1 0) (sym (get_or-tests s block i (omega (arith, lt, long))))
      ∙ sym (bit_mask_l ms i) in
      ap count_ones (same_from_bits_below 64 m (mask_l ms) small fits same) ∙ ones-tests s block

  -- no more rows than bytes
  pub rows_begun-le : (s : State) (bytes : List ℕ) → rows_begun d columns s bytes ≤ length bytes
  rows_begun-le s [] = omega arith
  rows_begun-le s (b ∷ bytes) = by_test (counts_row columns s (class_of d b)) (rows_begun-le (step d s b) bytes) where
    by_test : (t : Bool) → rows_begun d columns (step d s b) bytes ≤ length bytes → cond t 1 0 + rows_begun d columns (step d s b) bytes ≤ suc (length bytes)
    by_test true le = omega (arith, le)
    by_test false le = omega (arith, le)

  -- the rows of what is left are those of the next bytes, and of the rest
  rows_begun-append : (s : State) (xs ys : List ℕ) → rows_begun d columns s (xs ++ ys) ≡ rows_begun d columns s xs + rows_begun d columns (state_after d s xs) ys
  rows_begun-append s [] ys = sym (zero-add (rows_begun d columns s ys))
  rows_begun-append s (b ∷ xs) ys =
      let one : ℕ = cond (counts_row columns s (class_of d b)) 1 0 in
      ap (λ n. one + n) (rows_begun-append (step d s b) xs ys) ∙ sym (add_assoc one (rows_begun d columns (step d s b) xs) (rows_begun d columns (state_after d (step d s b) xs) ys))

  pub rows_passed : (s t : State) (bytes : List ℕ) (at n : ℕ) → state_after d s (chunk at n bytes) ≡ t →
      rows_begun d columns s (drop at bytes) ≡ rows_begun d columns s (chunk at n bytes) + rows_begun d columns t (drop (at + n) bytes)
  rows_passed s t bytes at n behind =
      ap (rows_begun d columns s) (sym (take-append-drop n (drop at bytes)))
      ∙ rows_begun-append s (take n (drop at bytes)) (drop n (drop at bytes))
      ∙ (λ i. rows_begun d columns s (chunk at n bytes) + rows_begun d columns (behind i) (drop-drop n at bytes i))
