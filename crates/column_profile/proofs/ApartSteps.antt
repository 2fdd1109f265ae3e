-- Different values that are added one after another.
use Rattle.std.proofs.Common.{◌≡◌, ℕ, zero, suc, ◌+◌, ◌<◌, ◌≤◌, Bool, true, false, List, [], ◌∷◌, ◌++◌, Option, Some, None, length, take, map, refl, sym, ap, ◌∙◌, arith}
use Rattle.std.specs.Prelude.{◌||◌, nat_le, slice_get, if◌then◌else◌}
use Rattle.std.specs.List.{fold, list_any}
use Rattle.std.proofs.lemmas.List.{map-append}
use Rattle.std.proofs.lemmas.List.Sums.{fold_more}
use Rattle.std.proofs.lemmas.Option.{get_or_from_slice_get}
use Rattle.value_types.specs.Datum.{Datum}
use Rattle.column_profile.specs.declared.limits.TheConstants.{MOST_DIFFERENT}
use Rattle.column_profile.specs.Folded.{kept_with}
use Rattle.column_profile.specs.Tally.{Apart, apart_count, apart_with, with_one, within_most}

-- ---- elements that are looked up by keys

module _ {K V : Type 0} (eq : K → K → Bool) (same : V → V → Bool) (of : K → V) (agree : (a b : K) → eq a b ≡ same (of a) (of b)) where
  any_same : (k : K) (keys : List K) → list_any (eq k) keys ≡ list_any (same (of k)) (map of keys)
  any_same k [] = refl
  any_same k (x ∷ keys) = λ i. agree k x i || any_same k keys i

  either_way : (k : K) (keys : List K) (there : Bool) → map of (if there then keys else keys ++ k ∷ []) ≡ (if there then map of keys else map of keys ++ of k ∷ [])
  either_way k keys true = refl
  either_way k keys false = map-append of keys (k ∷ [])

  -- a key is added that may be there
  pub key_added : (k : K) (keys new : List K) (v : V) → new ≡ (if list_any (eq k) keys then keys else keys ++ k ∷ []) → of k ≡ v → map of new ≡ with_one same (map of keys) v
  key_added k keys new v told is =
      ap (map of) told ∙ either_way k keys (list_any (eq k) keys)
      ∙ ap (λ there. if there then map of keys else map of keys ++ of k ∷ []) (any_same k keys)
      ∙ ap (with_one same (map of keys)) is

  -- a key is there
  pub key_there : (k : K) (keys : List K) (v : V) → list_any (eq k) keys ≡ true → of k ≡ v → map of keys ≡ with_one same (map of keys) v
  key_there k keys v there is =
      ap (λ (t : Bool). if t then map of keys else map of keys ++ of k ∷ []) (sym (sym (any_same k keys) ∙ there))
      ∙ ap (with_one same (map of keys)) is

-- an element is there that is found by another test
module _ {K V : Type 0} (test : K → Bool) (same : V → V → Bool) (of : K → V) (v : V) (agree : (k : K) → test k ≡ same v (of k)) where
  any_passes : (keys : List K) → list_any test keys ≡ list_any (same v) (map of keys)
  any_passes [] = refl
  any_passes (x ∷ keys) = λ i. agree x i || any_passes keys i

  pub element_there : (keys : List K) → list_any test keys ≡ true → map of keys ≡ with_one same (map of keys) v
  element_there keys there = ap (λ (t : Bool). if t then map of keys else map of keys ++ v ∷ []) (sym (sym (any_passes keys) ∙ there))

-- ---- cells, up to one with which there are too many

pub none_stays : (cells : List Datum) → fold kept_with None cells ≡ None
none_stays [] = refl
none_stays (cell ∷ cells) = none_stays cells

pub none_behind : (kept : Option Apart) (k n : ℕ) (cells : List Datum) → k ≤ n → fold kept_with kept (take k cells) ≡ None → fold kept_with kept (take n cells) ≡ None
none_behind kept zero n cells within none = ap (λ kept. fold kept_with kept (take n cells)) none ∙ none_stays (take n cells)
none_behind kept (suc k) zero cells within none = absurd (let no : ⊥ = omega (arith, within) in no)
none_behind kept (suc k) (suc n) [] within none = none
none_behind kept (suc k) (suc n) (cell ∷ cells) within none = none_behind (kept_with kept cell) k n cells (omega (arith, within)) none

get_within : {X : Type 0} (xs : List X) (k : ℕ) (x : X) → slice_get xs k ≡ Some x → k < length xs
get_within [] k x at = absurd (let no : ⊥ = cc in no)
get_within (y ∷ xs) zero x at = omega arith
get_within (y ∷ xs) (suc k) x at = let rest = get_within xs k x at in omega (arith, rest)

-- one cell more
module _ (first : Option Apart) (cells : List Datum) (k : ℕ) (cell : Datum) (before after : Apart) (at : slice_get cells k ≡ Some cell)
    (so_far : Some before ≡ fold kept_with first (take k cells)) (added : after ≡ apart_with before cell) where
  next_kept : fold kept_with first (take (k + 1) cells) ≡ within_most after
  next_kept =
      fold_more kept_with first cells k cell (get_within cells k cell at)
      ∙ (λ i. kept_with (sym so_far i) (get_or_from_slice_get cells k cell cell at i)) ∙ ap within_most (sym added)

  pub more_kept : (within : Bool) → within ≡ nat_le (apart_count after) MOST_DIFFERENT → within ≡ true → Some after ≡ fold kept_with first (take (k + 1) cells)
  more_kept within is yes' = sym (next_kept ∙ ap (λ (t : Bool). if t then Some after else None) (sym is ∙ yes'))

  pub too_many : (within : Bool) → within ≡ nat_le (apart_count after) MOST_DIFFERENT → within ≡ false → (n : ℕ) → k < n → fold kept_with first (take n cells) ≡ None
  too_many within is no' n below =
      none_behind first (k + 1) n cells (omega (arith, below)) (next_kept ∙ ap (λ (t : Bool). if t then Some after else None) (sym is ∙ no'))
