-- The rows on both sides of a place at which a row begins.
use Rattle.std.proofs.Common.{◌≡◌, ℕ, zero, suc, ◌+◌, ◌<◌, Bool, true, false, cond, ◌||◌, ◌&&◌, not, List, [], ◌∷◌, ◌++◌, map, length, take, refl, sym, ◌∙◌, ap, arith}
use Rattle.std.specs.Prelude.{Option, Some, ◌==◌}
use Rattle.byte_classes.specs.declared.class.Class.{Class}
use Rattle.byte_classes.specs.declared.class.Class.TheVariants as class
use Rattle.byte_classes.specs.Dialect.{Marks, is_byte}
use Rattle.byte_classes.specs.Class.{class_of, is_line_end}
use Rattle.byte_classes.specs.LineEnds.{line_ends}
use Rattle.quote_automaton.specs.declared.state.State.{State}
use Rattle.quote_automaton.specs.declared.state.State.TheVariants.{RowStart}
use Rattle.quote_automaton.specs.Automaton.{step, state_after}
use Rattle.quote_automaton.specs.Rows.{begins_row, ends_row, row_starts, row_at}
use Rattle.quote_automaton.proofs.RowBegins.{same_step, same_end, begins_as_start, begins_behind_end}
use Rattle.quote_automaton.proofs.RowLaws.{row_starts-cons, row_at-cons_zero, row_at-cons_suc}

-- ---- rows before it

-- the row at the front ends before a place at which another one begins
front_row : (d : Marks) (s : State) (x : ℕ) (xs : List ℕ) (b : ℕ) (rest : List ℕ) → begins_row (state_after d s (x ∷ xs)) (class_of d b) ≡ true →
    row_at d s (x ∷ (xs ++ b ∷ rest)) 0 ≡ row_at d s (x ∷ xs) 0
front_row d s x [] b rest begins =
    let ends : ends_row s (class_of d x) ≡ true = begins_behind_end d s (class_of d x) (class_of d b) begins in
    row_at-cons_zero d s x (b ∷ rest)
    ∙ ap (λ t. cond t [] (x ∷ row_at d (step d s x) (b ∷ rest) 0)) ends
    ∙ sym (row_at-cons_zero d s x [] ∙ ap (λ t. cond t [] (x ∷ row_at d (step d s x) [] 0)) ends)
front_row d s x (y ∷ ys) b rest begins =
    row_at-cons_zero d s x (y ∷ (ys ++ b ∷ rest))
    ∙ ap (λ r. cond (ends_row s (class_of d x)) [] (x ∷ r)) (front_row d (step d s x) y ys b rest begins)
    ∙ sym (row_at-cons_zero d s x (y ∷ ys))

-- and so does each one before it
pub row_before : (d : Marks) (s : State) (xs : List ℕ) (b : ℕ) (rest : List ℕ) (k : ℕ) → begins_row (state_after d s xs) (class_of d b) ≡ true → k < length xs →
    row_at d s (xs ++ b ∷ rest) k ≡ row_at d s xs k
row_before d s [] b rest k begins below = absurd (let no : ⊥ = omega (arith, below) in no)
row_before d s (x ∷ xs) b rest zero begins below = front_row d s x xs b rest begins
row_before d s (x ∷ xs) b rest (suc k) begins below =
    row_at-cons_suc d s x (xs ++ b ∷ rest) k ∙ row_before d (step d s x) xs b rest k begins (omega (arith, below)) ∙ sym (row_at-cons_suc d s x xs k)

-- ---- rows from it on

module _ (d : Marks) (s : State) (b : ℕ) (rest : List ℕ) (begins : begins_row s (class_of d b) ≡ true) where
  next_alike : step d s b ≡ step d RowStart b
  next_alike = same_step d s (class_of d b) begins

  -- they begin where they begin in a text of their own
  pub starts_alike : row_starts d s (b ∷ rest) ≡ row_starts d RowStart (b ∷ rest)
  starts_alike =
      row_starts-cons d s b rest
      ∙ (λ i. cond (begins i) (0 ∷ []) [] ++ map suc (row_starts d (next_alike i) rest))
      ∙ (λ i. cond (sym (begins_as_start s (class_of d b) begins) i) (0 ∷ []) [] ++ map suc (row_starts d (step d RowStart b) rest))
      ∙ sym (row_starts-cons d RowStart b rest)

  -- and are the same
  pub row_alike : (k : ℕ) → row_at d s (b ∷ rest) k ≡ row_at d RowStart (b ∷ rest) k
  row_alike zero =
      row_at-cons_zero d s b rest
      ∙ (λ i. cond (same_end s (class_of d b) begins i) [] (b ∷ row_at d (next_alike i) rest 0))
      ∙ sym (row_at-cons_zero d RowStart b rest)
  row_alike (suc k) = row_at-cons_suc d s b rest k ∙ ap (λ t. row_at d t rest k) next_alike ∙ sym (row_at-cons_suc d RowStart b rest k)

-- ---- physical lines from it on

-- a byte that ends no line isn't LF
pub not_lf : (d : Marks) (b : ℕ) → is_line_end (class_of d b) ≡ false → (b == 10) ≡ false
not_lf d b filled = by_test (b == 10) _ filled where
  by_test : (t : Bool) (rest : Class) → is_line_end (cond t class.Lf rest) ≡ false → t ≡ false
  by_test true rest is = absurd (let no : ⊥ = cc in no)
  by_test false rest is = refl

-- what stands before bytes matters for an LF at their front alone
pub lines_alike : (before other : Option ℕ) (b : ℕ) (bytes : List ℕ) → (b == 10) ≡ false → line_ends before (b ∷ bytes) ≡ line_ends other (b ∷ bytes)
lines_alike before other b bytes is =
    (λ i. cond {A = ℕ} ((b == 13) || (is i && not (is_byte before 13))) 1 0 + line_ends (Some b) bytes)
    ∙ (λ i. cond {A = ℕ} ((b == 13) || (sym is i && not (is_byte other 13))) 1 0 + line_ends (Some b) bytes)

pub taken_lines_alike : (before other : Option ℕ) (b : ℕ) (bytes : List ℕ) (k : ℕ) → (b == 10) ≡ false → line_ends before (take k (b ∷ bytes)) ≡ line_ends other (take k (b ∷ bytes))
taken_lines_alike before other b bytes zero is = refl
taken_lines_alike before other b bytes (suc k) is = lines_alike before other b (take k bytes) is
