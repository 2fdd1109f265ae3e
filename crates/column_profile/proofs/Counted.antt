-- Nulls and values are all cells.
use Rattle.std.proofs.Common.{◌≡◌, ◌+◌, Bool, true, false, List, [], ◌∷◌, length, ◌∙◌, refl, arith}
use Rattle.std.specs.Prelude.{count_by, not, if◌then◌else◌}
use Rattle.std.proofs.lemmas.List.{length-map}
use Rattle.std.proofs.lemmas.List.Sums.{sum_by-cons}
use Rattle.column_profile.specs.Laws.{CellsAreCounted}
use Rattle.column_profile.specs.Profile.{cells_in}
use Rattle.column_profile.specs.Tally.{is_null_cell}
use Rattle.value_types.specs.Datum.{null}
use Rattle.std.specs.List.{slice_index_or}

module _ {X : Type 0} (test : X → Bool) where
  one_of_two : (b : Bool) → (if b then 1 else 0) + (if not b then 1 else 0) ≡ 1
  one_of_two true = refl
  one_of_two false = refl

  -- elements pass a test, or they fail it
  pub pass_or_fail : (xs : List X) → count_by test xs + count_by (λ x. not (test x)) xs ≡ length xs
  pass_or_fail [] = refl
  pass_or_fail (x ∷ xs) =
      let rest = pass_or_fail xs in
      let passing = sum_by-cons (λ y. if test y then 1 else 0) x xs in
      let failing = sum_by-cons (λ y. if not (test y) then 1 else 0) x xs in
      let one = one_of_two (test x) in
      omega (arith, rest, passing, failing, one)

pub cells_counted : CellsAreCounted
cells_counted column rows = pass_or_fail is_null_cell (cells_in column rows) ∙ length-map rows (λ row. slice_index_or row column null)
