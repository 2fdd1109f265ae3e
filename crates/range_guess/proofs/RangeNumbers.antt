-- The numbers of ranges, and what is given of each.
use Rattle.std.proofs.Common.{◌≡◌, ℕ, zero, suc, ◌+◌, ◌<◌, ◌∷◌, map, refl, arith}
use Rattle.std.specs.List.{range_with_len}

-- two functions that agree on numbers from a on agree on the list of them
pub map_range : {A : Type 0} (f h : ℕ → A) (a n : ℕ) → ((k : ℕ) → k < a + n → f k ≡ h k) → map f (range_with_len a n) ≡ map h (range_with_len a n)
map_range f h a zero e = refl
map_range f h a (suc n) e = λ i. e a (omega arith) i ∷ map_range f h (a + 1) n (λ k lt. e k (omega (arith, lt))) i
