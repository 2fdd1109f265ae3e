-- Slots that take a row, or write their lines, one after another.
use Rattle.std.proofs.Common.{◌≡◌, ℕ, zero, suc, ◌+◌, ◌<◌, List, [], ◌∷◌, ◌++◌, length, take, drop, map, get_or, refl, sym, ap, ◌∙◌, subst, arith, add-one}
use Rattle.std.specs.Prelude.{All}
use Rattle.std.proofs.Math.ListN.{set}
use Rattle.std.proofs.lemmas.List.{map-set, length-map, get_or-map}
use Rattle.std.proofs.lemmas.List.Elements.{All-get_or}

not_yet : {A : Type 0} (next : A → A) (xs : List A) (i : ℕ) (d : A) → get_or (map next (take i xs) ++ drop i xs) i d ≡ get_or xs i d
not_yet next [] zero d = refl
not_yet next [] (suc i) d = refl
not_yet next (x ∷ xs) zero d = refl
not_yet next (x ∷ xs) (suc i) d = not_yet next xs i d

one_more : {A : Type 0} (next : A → A) (xs : List A) (i : ℕ) (d y : A) → i < length xs → y ≡ next (get_or xs i d)
    → set (map next (take i xs) ++ drop i xs) i y ≡ map next (take (suc i) xs) ++ drop (suc i) xs
one_more next [] i d y within is = absurd (let n : ⊥ = omega (arith, within) in n)
one_more next (x ∷ xs) zero d y within is = ap (λ z. z ∷ xs) is
one_more next (x ∷ xs) (suc i) d y within is = ap (λ zs. next x ∷ zs) (one_more next xs i d y (omega (arith, within)) is)

one_in_part : {A : Type 0} (next part : A → A) (xs : List A) (i : ℕ) (d : A) → i < length xs
    → set (map next (take i xs) ++ drop i xs) i (part (get_or xs i d)) ≡ map next (take i xs) ++ (map part (take 1 (drop i xs)) ++ drop (suc i) xs)
one_in_part next part [] i d within = absurd (let n : ⊥ = omega (arith, within) in n)
one_in_part next part (x ∷ xs) zero d within = refl
one_in_part next part (x ∷ xs) (suc i) d within = ap (λ zs. next x ∷ zs) (one_in_part next part xs i d (omega (arith, within)))

same_again : {A : Type 0} (xs : List A) (i : ℕ) (d y : A) → y ≡ get_or xs i d → set xs i y ≡ xs
same_again [] zero d y is = refl
same_again [] (suc i) d y is = refl
same_again (x ∷ xs) zero d y is = ap (λ z. z ∷ xs) is
same_again (x ∷ xs) (suc i) d y is = ap (λ zs. x ∷ zs) (same_again xs i d y is)

kept_length : {A : Type 0} (next : A → A) (xs : List A) (i : ℕ) → length (map next (take i xs) ++ drop i xs) ≡ length xs
kept_length next [] zero = refl
kept_length next [] (suc i) = refl
kept_length next (x ∷ xs) zero = refl
kept_length next (x ∷ xs) (suc i) = ap suc (kept_length next xs i)

module _ {T A : Type 0} (view : T → A) (next : A → A) (olds : List A) (slots : List T) (i : ℕ) (d : T)
    (within : i < length slots) (is : map view slots ≡ map next (take i olds) ++ drop i olds) where
  pub within_olds : i < length olds
  within_olds = omega (arith, length-map slots view, ap length is, kept_length next olds i, within)

  there : view (get_or slots i d) ≡ get_or olds i (view d)
  there = sym (get_or-map view slots i d (view d) within) ∙ ap (λ xs. get_or xs i (view d)) is ∙ not_yet next olds i (view d)

  -- a slot that wasn't fed yet is as before
  pub still : (P : A → Type 0) → All P olds → P (view (get_or slots i d))
  still P all = subst P (sym there) (All-get_or P olds i (view d) within_olds all)

  -- one slot more is fed
  pub fed_more : (new : T) → view new ≡ next (view (get_or slots i d)) → map view (set slots i new) ≡ map next (take (i + 1) olds) ++ drop (i + 1) olds
  fed_more new told = rw add-one
      (map-set view slots i new ∙ ap (λ xs. set xs i (view new)) is ∙ one_more next olds i (view d) (view new) within_olds (told ∙ ap next there))

  -- a slot that had no memory is as before
  pub fed_same : (new : T) → view new ≡ view (get_or slots i d) → map view (set slots i new) ≡ map next (take i olds) ++ drop i olds
  fed_same new told = map-set view slots i new ∙ same_again (map view slots) i (view d) (view new) (told ∙ sym (get_or-map view slots i d (view d) within)) ∙ is

  -- a slot is fed in part
  pub fed_in_part : (part : A → A) (new : T) → view new ≡ part (view (get_or slots i d)) → map view (set slots i new) ≡ map next (take i olds) ++ (map part (take 1 (drop i olds)) ++ drop (i + 1) olds)
  fed_in_part part new told = rw add-one
      (map-set view slots i new ∙ (λ j. set (is j) i ((told ∙ ap part there) j)) ∙ one_in_part next part olds i (view d) within_olds)
