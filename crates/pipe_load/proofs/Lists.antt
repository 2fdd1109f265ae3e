-- Lists of windows and of what passes know.
use Rattle.std.proofs.Common.{◌≡◌, ℕ, zero, suc, ◌+◌, ◌<◌, ◌≤◌, ◌⊎◌, inl, inr, eqb, cond, List, [], ◌∷◌, ◌++◌, length, drop, get_or, set, sum_by, sym, refl, ap, ⊎_elim, arith}
use Rattle.std.proofs.lemmas.List.Sums.{sum_by-cons, sum_by-append}
use Rattle.std.proofs.lemmas.Bool.{cases_eq}
use Rattle.std.proofs.lemmas.Bool.Decides.{nat_tests}
use mathlib.Core.Option.{some, some-injective, some-ne-none}
use lib.ListN.{get_elem?}
use Rattle.pipe_load.specs.declared.pass_view.PassView.{PassView}
use Rattle.pipe_load.specs.declared.window.Window.{Window}
use Rattle.pipe_load.specs.declared.window.Item.TheVariants as item
use Rattle.pipe_load.specs.Rule.{times, once_below, end_marks}

-- an entry of a list stays where more comes behind it
pub at_more : {A : Type 0} (xs ys : List A) (k : ℕ) (x : A) → get_elem? xs k ≡ some x → get_elem? (xs ++ ys) k ≡ some x
at_more [] ys k x e = absurd (some-ne-none x (sym e))
at_more (y ∷ xs) ys zero x e = e
at_more (y ∷ xs) ys (suc k) x e = at_more xs ys k x e

-- an entry of a list with one more: an old one, or the last
pub at_one_more : {A : Type 0} (xs : List A) (a : A) (k : ℕ) (x : A) → get_elem? (xs ++ a ∷ []) k ≡ some x → (get_elem? xs k ≡ some x) ⊎ ((k ≡ length xs) × (a ≡ x))
at_one_more [] a zero x e = inr (refl, some-injective a x e)
at_one_more [] a (suc k) x e = absurd (some-ne-none x (sym e))
at_one_more (y ∷ xs) a zero x e = inl e
at_one_more (y ∷ xs) a (suc k) x e = ⊎_elim inl (λ t. inr (ap suc t.0, t.1)) (at_one_more xs a k x e)

-- what is left behind the first n, where one is there
pub drop_first : {A : Type 0} (xs : List A) (n : ℕ) (x : A) (rest : List A) → drop n xs ≡ x ∷ rest → (get_elem? xs n ≡ some x) × (drop (suc n) xs ≡ rest) × (n < length xs)
drop_first [] zero x rest e = absurd (cc)
drop_first [] (suc n) x rest e = absurd (cc)
drop_first (y ∷ xs) zero x rest e = (ap some (cc), (cc), omega arith)
drop_first (y ∷ xs) (suc n) x rest e = let h = drop_first xs n x rest e in let below = h.2 in (h.0, h.1, omega (arith, below))

-- an end mark before some is one behind them
pub marks_more : (n : ℕ) → end_marks n ++ item.EndMark ∷ [] ≡ end_marks (suc n)
marks_more zero = refl
marks_more (suc n) = ap (λ ms. item.EndMark ∷ ms) (marks_more n)

pub times-append : (k : ℕ) (xs ys : List Window) → times k (xs ++ ys) ≡ times k xs + times k ys
times-append k xs ys = sum_by-append (λ (w : Window). cond {A = ℕ} (eqb w.number k) 1 0) xs ys

pub once_more : (k n : ℕ) → once_below k (suc n) ≡ once_below k n + cond (eqb n k) 1 0
once_more k n = grind (arith, nat_tests)

-- a sum over views of which one is replaced
pub sum_set : (f : PassView → ℕ) (l : List PassView) (i : ℕ) (v w : PassView) → get_elem? l i ≡ some v → sum_by f (set l i w) + f v ≡ sum_by f l + f w
sum_set f [] i v w e = absurd (some-ne-none v (sym e))
sum_set f (x ∷ xs) zero v w e = let same : f x ≡ f v = ap f (some-injective x v e) in omega (arith, sum_by-cons f x xs, sum_by-cons f w xs)
sum_set f (x ∷ xs) (suc i) v w e = let r = sum_set f xs i v w e in omega (arith, sum_by-cons f x xs, sum_by-cons f x (set xs i w))

-- an entry's share of a sum, and a sum without one
pub sum_covers : (f : PassView → ℕ) (l : List PassView) (i : ℕ) (v : PassView) → get_elem? l i ≡ some v → f v ≤ sum_by f l
sum_covers f [] i v e = absurd (some-ne-none v (sym e))
sum_covers f (x ∷ xs) zero v e = let same : f x ≡ f v = ap f (some-injective x v e) in omega (arith, same, sum_by-cons f x xs)
sum_covers f (x ∷ xs) (suc i) v e = let r = sum_covers f xs i v e in omega (arith, r, sum_by-cons f x xs)

pub sum_none : (f : PassView → ℕ) (l : List PassView) → ((j : ℕ) (u : PassView) → get_elem? l j ≡ some u → f u ≡ 0) → sum_by f l ≡ 0
sum_none f [] none = grind arith
sum_none f (x ∷ xs) none =
    let first : f x ≡ 0 = none zero x refl in
    let rest : sum_by f xs ≡ 0 = sum_none f xs (λ j u e. none (suc j) u e) in omega (arith, first, rest, sum_by-cons f x xs)

-- a window that is counted in a list stands there
pub stands : (k : ℕ) (ws : List Window) → 0 < times k ws → (i : ℕ) × (i < length ws) × ((d : Window) → (get_or ws i d).number ≡ k)
stands k [] there = absurd (let never : ⊥ = grind arith in never)
stands k (w ∷ ws) there = elim (cases_eq w.number k) [
  | inl here ↦ (zero, omega arith, λ d. here)
  | inr apart ↦
      let rest : 0 < times k ws = grind (arith, nat_tests, sum_by-cons (λ (u : Window). cond {A = ℕ} (eqb u.number k) 1 0) w ws) in
      let h = stands k ws rest in let under = h.1 in (suc h.0, omega (arith, under), h.2)
]
