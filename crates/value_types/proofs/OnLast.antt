-- A list whose last element is changed.
use Rattle.std.proofs.Common.{◌≡◌, ℕ, zero, suc, ◌+◌, refl, ap, arith, List, [], ◌∷◌, ◌++◌, length, get_or, take, map}
use Rattle.value_types.specs.Texts.{on_last}

module _ {A : Type 0} (change : A → A) where
  pub on_last-push : (xs : List A) (x : A) → on_last change (xs ++ x ∷ []) ≡ xs ++ change x ∷ []
  on_last-push [] x = refl
  on_last-push (y ∷ []) x = refl
  on_last-push (y ∷ z ∷ xs) x = ap (λ ys. y ∷ ys) (on_last-push (z ∷ xs) x)

  pub length-on_last : (xs : List A) → length (on_last change xs) ≡ length xs
  length-on_last [] = refl
  length-on_last (x ∷ []) = refl
  length-on_last (x ∷ y ∷ xs) = ap suc (length-on_last (y ∷ xs))

  pub on_last-take : (xs : List A) (n : ℕ) (d : A) → length xs ≡ n + 1 → on_last change xs ≡ take n xs ++ change (get_or xs n d) ∷ []
  on_last-take [] n d count = absurd (let no : ⊥ = omega (arith, count) in no)
  on_last-take (x ∷ []) zero d count = refl
  on_last-take (x ∷ []) (suc n) d count = absurd (let no : ⊥ = omega (arith, count) in no)
  on_last-take (x ∷ y ∷ xs) zero d count = absurd (let no : ⊥ = omega (arith, count) in no)
  on_last-take (x ∷ y ∷ xs) (suc n) d count = ap (λ ys. x ∷ ys) (on_last-take (y ∷ xs) n d (omega (arith, count)))

-- what is seen of each element
pub on_last-map : {A B : Type 0} (seen : A → B) (change : A → A) (changed : B → B) → ((x : A) → seen (change x) ≡ changed (seen x)) → (xs : List A) →
    map seen (on_last change xs) ≡ on_last changed (map seen xs)
on_last-map seen change changed same [] = refl
on_last-map seen change changed same (x ∷ []) = ap (λ y. y ∷ []) (same x)
on_last-map seen change changed same (x ∷ y ∷ xs) = ap (λ ys. seen x ∷ ys) (on_last-map seen change changed same (y ∷ xs))

-- nothing is changed
pub on_last-same : {A : Type 0} (xs : List A) → on_last (λ x. x) xs ≡ xs
on_last-same [] = refl
on_last-same (x ∷ []) = refl
on_last-same (x ∷ y ∷ xs) = ap (λ ys. x ∷ ys) (on_last-same (y ∷ xs))
