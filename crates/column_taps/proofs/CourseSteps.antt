-- The course of a tap that is shown rows at once.
use Rattle.std.proofs.Common.{◌≡◌, ℕ, suc, ◌+◌, ◌<◌, ◌≤◌, List, [], ◌∷◌, Option, Some, None, length, take, refl, sym, ap, ◌∙◌, add-zero, arith}
use Rattle.std.proofs.lemmas.List.{length-take-le}
use Rattle.value_types.specs.Datum.{Datum}
use Rattle.column_taps.specs.Seen.{Seen, step}
use Rattle.column_taps.specs.Course.{going, over_at, course_of, course_after}
use Rattle.column_taps.specs.Shown.{shown_rows, HaveGone}
use Rattle.column_taps.proofs.ShownSteps.{behind}

-- what is over stays over
pub over_stays : (earlier number : ℕ) (rows : List (List Datum)) → course_after number (over_at earlier) rows ≡ over_at earlier
over_stays earlier number [] = refl
over_stays earlier number (row ∷ rows) = over_stays earlier (number + 1) rows

-- no more rows go than there are
not_more : (old : Seen) (rows : List (List Datum)) (o : Option Seen) → ((after : Seen) → (shown_rows after rows).0 ≤ length rows) → (behind old rows o).0 ≤ suc (length rows)
not_more old rows None less = omega arith
not_more old rows (Some after) less = let few = less after in omega (arith, few)

shown_within : (seen : Seen) (rows : List (List Datum)) → (shown_rows seen rows).0 ≤ length rows
shown_within seen [] = omega arith
shown_within seen (row ∷ rows) = not_more seen rows (step seen row) (λ after. shown_within after rows)

-- not all rows go: one is over
stops_behind : (old : Seen) (number : ℕ) (rows : List (List Datum)) (o : Option Seen)
    → ((after : Seen) → (shown_rows after rows).0 < length rows → course_after (number + 1) (going after) rows ≡ over_at (number + 1 + (shown_rows after rows).0))
    → (behind old rows o).0 < suc (length rows) → course_after (number + 1) (course_of number o) rows ≡ over_at (number + (behind old rows o).0)
stops_behind old number rows None stops less = over_stays number (number + 1) rows ∙ ap over_at (sym (add-zero number))
stops_behind old number rows (Some after) stops less =
    let place : number + 1 + (shown_rows after rows).0 ≡ number + suc (shown_rows after rows).0 = omega arith in
    stops after (omega (arith, less)) ∙ ap over_at place

stops : (seen : Seen) (number : ℕ) (rows : List (List Datum)) → (shown_rows seen rows).0 < length rows → course_after number (going seen) rows ≡ over_at (number + (shown_rows seen rows).0)
stops seen number [] less = absurd (let n : ⊥ = omega (arith, less) in n)
stops seen number (row ∷ rows) less = stops_behind seen number rows (step seen row) (λ after few. stops after (number + 1) rows few) less

-- all rows go
goes_behind : (old : Seen) (number : ℕ) (rows : List (List Datum)) (o : Option Seen)
    → ((after : Seen) → (shown_rows after rows).0 ≡ length rows → course_after (number + 1) (going after) rows ≡ going (shown_rows after rows).1)
    → (behind old rows o).0 ≡ suc (length rows) → course_after (number + 1) (course_of number o) rows ≡ going (behind old rows o).1
goes_behind old number rows None goes all = absurd (let n : ⊥ = omega (arith, all) in n)
goes_behind old number rows (Some after) goes all = goes after (omega (arith, all))

goes : (seen : Seen) (number : ℕ) (rows : List (List Datum)) → (shown_rows seen rows).0 ≡ length rows → course_after number (going seen) rows ≡ going (shown_rows seen rows).1
goes seen number [] all = refl
goes seen number (row ∷ rows) all = goes_behind seen number rows (step seen row) (λ after few. goes after (number + 1) rows few) all

module _ (old new : Seen) (number count : ℕ) (rows : List (List Datum)) (shown : (count, new) ≡ shown_rows old rows) where
  count_is : count ≡ (shown_rows old rows).0
  count_is = ap (λ (p : ℕ × Seen). p.0) shown

  seen_is : new ≡ (shown_rows old rows).1
  seen_is = ap (λ (p : ℕ × Seen). p.1) shown

  pub is_over : count < length rows → over_at (number + count) ≡ course_after number (going old) rows
  is_over less = ap (λ n. over_at (number + n)) count_is ∙ sym (stops old number rows (omega (arith, less, count_is)))

  pub goes_on : length rows ≤ count → going new ≡ course_after number (going old) rows
  goes_on all = ap going seen_is ∙ sym (goes old number rows (omega (arith, all, count_is, shown_within old rows)))

pub goes_in_part : (old new : Seen) (number : ℕ) (rows : List (List Datum)) → HaveGone old rows new
    → (some : ℕ) × (some ≤ length rows) × (going new ≡ course_after number (going old) (take some rows))
goes_in_part old new number rows gone =
    let long = length-take-le gone.0 rows gone.1 in
    (gone.0, gone.1, goes_on old new number gone.0 (take gone.0 rows) gone.2 (omega (arith, long)))
