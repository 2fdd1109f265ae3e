-- Facts of each element of a list.
use Rattle.std.proofs.Common.{ℕ, zero, suc, List, [], ◌∷◌, ◌++◌, take, drop, All}
use Rattle.std.proofs.lemmas.List.Elements.{All-cons, All-head, All-nil, All-tail}
use Rattle.sqlite_btree.specs.Cut.{Each}

module _ {X : Type 0} (P : X → Type 0) where
  pub each-more : (xs : List X) (x : X) → Each P xs → P x → Each P (xs ++ x ∷ [])
  each-more [] x all here = (here, tt)
  each-more (y ∷ xs) x all here = (all.0, each-more xs x all.1 here)

  pub each-take : (n : ℕ) (xs : List X) → Each P xs → Each P (take n xs)
  each-take zero xs all = tt
  each-take (suc n) [] all = tt
  each-take (suc n) (x ∷ xs) all = (all.0, each-take n xs all.1)

  pub each-drop : (n : ℕ) (xs : List X) → Each P xs → Each P (drop n xs)
  each-drop zero xs all = all
  each-drop (suc n) [] all = tt
  each-drop (suc n) (x ∷ xs) all = each-drop n xs all.1

  pub each-so : (Q : X → Type 0) → ((x : X) → P x → Q x) → (xs : List X) → Each P xs → Each Q xs
  each-so Q so [] all = tt
  each-so Q so (x ∷ xs) all = (so x all.0, each-so Q so xs all.1)

  pub each-all : (xs : List X) → Each P xs → All P xs
  each-all [] all = All-nil P
  each-all (x ∷ xs) all = All-cons P x xs all.0 (each-all xs all.1)

  pub all-front : (xs ys : List X) → All P (xs ++ ys) → All P xs
  all-front [] ys all = All-nil P
  all-front (x ∷ xs) ys all = All-cons P x xs (All-head P x (xs ++ ys) all) (all-front xs ys (All-tail P x (xs ++ ys) all))

  pub all-last : (xs : List X) (y : X) → All P (xs ++ y ∷ []) → P y
  all-last [] y all = All-head P y [] all
  all-last (x ∷ xs) y all = all-last xs y (All-tail P x (xs ++ y ∷ []) all)
