-- Along lists, element by element.
use Rattle.std.proofs.Common.{◌≡◌, ◌≢◌, ◌≤◌, ◌<◌, ℕ, ◌+◌, Bool, true, false, List, length, take, drop, get_or, set, Some, refl, sym, ap, ◌∙◌, inl, inr, arith}
use Rattle.std.specs.Prelude.{◌||◌, slice_get}
use Rattle.std.specs.Int.{from_bool}
use Rattle.std.specs.List.{count_by, list_any}
use Rattle.std.proofs.lemmas.Bool.{cases_Bool}
use Rattle.std.proofs.lemmas.Bool.Decides.{eqb_tells}
use Rattle.std.proofs.lemmas.Grind.{get_or-set_at}
use Rattle.std.proofs.lemmas.List.{get_or-set_other, get_or-take, get_or_default, length-take}
use Rattle.std.proofs.lemmas.List.Sums.{count_by_more_no, count_by_more_yes}
use Rattle.std.proofs.lemmas.Option.{get_or_from_slice_get, slice_get_read, slice_get_within}
use Rattle.load_options.proofs.ListSteps.{drop-at}

-- a test of the elements from a place on, of which the answer for the first is known
pub any_on : {X : Type 0} (p : X → Bool) (xs : List X) (i : ℕ) (x : X) (passes whole : Bool) → slice_get xs i ≡ Some x → p x ≡ passes → list_any p (drop i xs) ≡ whole → (passes || list_any p (drop (i + 1) xs)) ≡ whole
any_on p xs i x passes whole at is h = sym (ap (list_any p) (drop-at xs i x at) ∙ ap (λ t. t || list_any p (drop (i + 1) xs)) is) ∙ h

-- one element more is counted, where it passes
pub count_on : {X : Type 0} (p : X → Bool) (xs : List X) (i : ℕ) (x : X) (count : ℕ) → slice_get xs i ≡ Some x → count ≡ count_by p (take i xs) → count + from_bool (p x) ≡ count_by p (take (i + 1) xs)
count_on p xs i x count at so =
    let within = slice_get_within xs i x at in
    let here = ap p (get_or_from_slice_get xs i x x at) in
    elim (cases_Bool (p x)) [
      | inl is ↦ (let one : from_bool (p x) ≡ 1 = ap from_bool is in omega (arith, one, so, count_by_more_yes p xs i x within (here ∙ is)))
      | inr other ↦ (let none : from_bool (p x) ≡ 0 = ap from_bool other in omega (arith, none, so, count_by_more_no p xs i x within (here ∙ other)))
    ]

pub one_at_most : (b : Bool) → from_bool b ≤ 1
one_at_most true = omega arith
one_at_most false = omega arith

-- an element of a front
pub slice_get-take : {X : Type 0} (n : ℕ) (xs : List X) (i : ℕ) (x : X) → i < n → slice_get xs i ≡ Some x → slice_get (take n xs) i ≡ Some x
slice_get-take n xs i x few at =
    slice_get_read (take n xs) (length (take n xs)) i x refl (omega (arith, few, slice_get_within xs i x at, length-take n xs))
    (sym (get_or-take n xs i x few ∙ get_or_from_slice_get xs i x x at))

-- ---- one place more, along which each element takes a step

module _ {X : Type 0} (step : ℕ → X → X) (start now : List X) (at : ℕ) (next : X) (within : at < length now) where
  abbrev SteppedBelow : ℕ → List X → Type 0
  SteppedBelow n after = (k : ℕ) (other : X) → k < n → get_or after k other ≡ step k (get_or start k other)

  abbrev SameFrom : ℕ → List X → Type 0
  SameFrom n after = (k : ℕ) (other : X) → n ≤ k → get_or after k other ≡ get_or start k other

  pub stepped_below : (default : X) → next ≡ step at (get_or now at default) → SameFrom at now → SteppedBelow at now → SteppedBelow (at + 1) (set now at next)
  stepped_below default is above below k other lt = elim (eqb_tells k at) [
    | inl same ↦
        get_or-set_at now at k next other same.1 within ∙ is
        ∙ ap (step at) (get_or_default now at default other within ∙ above at other (omega arith))
        ∙ ap (λ j. step j (get_or start j other)) (sym same.1)
    | inr apart ↦ (let ne : k ≢ at = apart.1 in get_or-set_other now at k next other ne ∙ below k other (omega (arith, lt, ne)))
  ]

  pub same_from : SameFrom at now → SameFrom (at + 1) (set now at next)
  same_from above k other le = let ne : k ≢ at = omega (arith, le) in get_or-set_other now at k next other ne ∙ above k other (omega (arith, le))
