-- Values with another one in the place of each null.
use Rattle.std.proofs.Common.{◌≡◌, ℕ, zero, suc, Bool, false, List, [], ◌∷◌, length, get_or, Some, refl, sym, ap, ◌∙◌}
use Rattle.std.specs.Prelude.{slice_get, if◌then◌else◌}
use Rattle.npz_writer.specs.Blocks.{unmarked}

module _ {A : Type 0} (other : A) where
  unmarked_at : (nulls : List Bool) (values : List A) (row : ℕ) (value : A) → slice_get values row ≡ Some value
      → slice_get (unmarked other nulls values) row ≡ Some (if get_or nulls row false then other else value)
  unmarked_at nulls [] row value is = absurd (let no : ⊥ = cc in no)
  unmarked_at [] (v ∷ values) zero value is = is
  unmarked_at [] (v ∷ values) (suc row) value is = unmarked_at [] values row value is
  unmarked_at (n ∷ nulls) (v ∷ values) zero value is = let same : v ≡ value = cc in ap (λ v. Some (if n then other else v)) same
  unmarked_at (n ∷ nulls) (v ∷ values) (suc row) value is = unmarked_at nulls values row value is

  -- the value of a row, or the other one
  pub unmarked-get : (nulls : List Bool) (values : List A) (row : ℕ) (is_null : Bool) (value chosen : A) → is_null ≡ get_or nulls row false → slice_get values row ≡ Some value
      → chosen ≡ (if is_null then other else value) → slice_get (unmarked other nulls values) row ≡ Some chosen
  unmarked-get nulls values row is_null value chosen mark is made =
      unmarked_at nulls values row value is ∙ ap (λ (n : Bool). Some (if n then other else value)) (sym mark) ∙ ap Some (sym made)

  pub length-unmarked : (nulls : List Bool) (values : List A) → length (unmarked other nulls values) ≡ length values
  length-unmarked nulls [] = refl
  length-unmarked [] (v ∷ values) = ap suc (length-unmarked [] values)
  length-unmarked (n ∷ nulls) (v ∷ values) = ap suc (length-unmarked nulls values)
