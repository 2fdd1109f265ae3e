-- Along a list that is copied.
use Rattle.std.proofs.Common.{◌≡◌, ℕ, zero, suc, ◌+◌, List, [], ◌∷◌, ◌++◌, take, Some, ◌∙◌, ap, arith}
use Rattle.std.specs.Prelude.{slice_get}

-- the next element joins those before it
pub take-at : {X : Type 0} (xs : List X) (i : ℕ) (x : X) → slice_get xs i ≡ Some x → take (i + 1) xs ≡ take i xs ++ x ∷ []
take-at [] i x is = absurd (let wrong : ⊥ = cc in wrong)
take-at (y ∷ xs) zero x is = let same : y ≡ x = cc in ap (λ z. z ∷ []) same
take-at (y ∷ xs) (suc i) x is = ap (λ n. take n (y ∷ xs)) (let next : suc i + 1 ≡ suc (i + 1) = omega arith in next) ∙ ap (λ zs. y ∷ zs) (take-at xs i x is)
