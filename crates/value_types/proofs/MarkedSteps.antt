-- The cells of values that have marks, taken in one after another.
use Rattle.std.proofs.Common.{◌≡◌, ℕ, zero, suc, ◌+◌, ◌<◌, ◌≤◌, Bool, false, List, [], ◌∷◌, Some, length, take, map, get_or, refl, sym, ap, ◌∙◌, arith}
use Rattle.std.specs.Prelude.{slice_get, if◌then◌else◌}
use Rattle.std.specs.List.{fold}
use Rattle.std.proofs.lemmas.Option.{get_or_from_slice_get}
use Rattle.std.proofs.lemmas.List.Sums.{fold_more}
use Rattle.value_types.specs.Datum.{Datum, null}
use Rattle.value_types.specs.Marked.{marked}

module _ {A : Type 0} (cell : A → Datum) where
  pub marked_long : (n : ℕ) (nulls : List Bool) (values : List A) → n ≤ length values → n ≤ length (marked cell nulls values)
  marked_long zero nulls values all = omega arith
  marked_long (suc n) nulls [] all = absurd (let no : ⊥ = omega (arith, all) in no)
  marked_long (suc n) [] (v ∷ values) all = let rest = marked_long n [] values (omega (arith, all)) in omega (arith, rest)
  marked_long (suc n) (b ∷ nulls) (v ∷ values) all = let rest = marked_long n nulls values (omega (arith, all)) in omega (arith, rest)

  pub marked_next : (nulls : List Bool) (values : List A) (k : ℕ) (d : Datum) (v : A) → k < length values
      → get_or (marked cell nulls values) k d ≡ (if get_or nulls k false then null else cell (get_or values k v))
  marked_next nulls [] k d v all = absurd (let no : ⊥ = omega (arith, all) in no)
  marked_next [] (w ∷ values) zero d v all = refl
  marked_next [] (w ∷ values) (suc k) d v all = marked_next [] values k d v (omega (arith, all))
  marked_next (m ∷ nulls) (w ∷ values) zero d v all = refl
  marked_next (m ∷ nulls) (w ∷ values) (suc k) d v all = marked_next nulls values k d v (omega (arith, all))

  pub marked_within : (n : ℕ) (nulls : List Bool) (values : List A) → n < length values → n < length (marked cell nulls values)
  marked_within n nulls values all = let long = marked_long (suc n) nulls values (omega (arith, all)) in omega (arith, long)

-- one cell more of a column
module _ {A S : Type 0} (cell : A → Datum) (add : S → Datum → S) (first : S) (nulls : List Bool) (values : List A) (k : ℕ) (b : Bool) (v : A) where
  pub fold_next : k < length values → b ≡ get_or nulls k false → slice_get values k ≡ Some v → (now next : S) → now ≡ fold add first (take k (marked cell nulls values))
      → next ≡ add now (if b then null else cell v) → next ≡ fold add first (take (k + 1) (marked cell nulls values))
  fold_next all mark found now next so_far told =
      told ∙ (λ i. add (so_far i) (if mark i then null else cell (sym (get_or_from_slice_get values k v v found) i)))
      ∙ ap (add (fold add first (take k (marked cell nulls values)))) (sym (marked_next cell nulls values k null v all))
      ∙ sym (fold_more add first (marked cell nulls values) k null (marked_within cell k nulls values all))

plain_front : {A : Type 0} (cell : A → Datum) (n : ℕ) (values : List A) → take n (marked cell [] values) ≡ map cell (take n values)
plain_front cell zero values = refl
plain_front cell (suc n) [] = refl
plain_front cell (suc n) (v ∷ values) = ap (λ cells. cell v ∷ cells) (plain_front cell n values)

pub unmarked : (nulls : List Bool) → length nulls ≡ 0 → nulls ≡ []
unmarked [] none = refl
unmarked (n ∷ nulls) none = absurd (let no : ⊥ = omega (arith, none) in no)

-- the first values of a column that has no mark
pub fold_plain : {A S : Type 0} (cell : A → Datum) (add : S → Datum → S) (s : S) (n : ℕ) (nulls : List Bool) (values front : List A) → nulls ≡ [] → front ≡ take n values
    → fold add s (map cell front) ≡ fold add s (take n (marked cell nulls values))
fold_plain cell add s n nulls values front none is =
    ap (λ vs. fold add s (map cell vs)) is ∙ ap (fold add s) (sym (plain_front cell n values)) ∙ ap (λ ns. fold add s (take n (marked cell ns values))) (sym none)
