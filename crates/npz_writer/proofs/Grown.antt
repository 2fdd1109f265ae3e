-- Lists that loops make, one thing after another.
use Rattle.std.proofs.Common.{◌≡◌, ℕ, suc, ◌+◌, ◌<◌, List, [], ◌∷◌, ◌++◌, length, drop, get_or, sym, ◌∙◌, ap, arith, append_assoc, append-nil, drop-cons}

-- the things from a place on
pub drop-here : {X : Type 0} (xs : List X) (k : ℕ) (d : X) → k < length xs → drop k xs ≡ get_or xs k d ∷ drop (k + 1) xs
drop-here xs k d within = let next : suc k ≡ k + 1 = omega arith in drop-cons xs k d within ∙ ap (λ n. get_or xs k d ∷ drop n xs) next

pub drop-item : {X : Type 0} (xs : List X) (k : ℕ) (x : X) → k < length xs → x ≡ get_or xs k x → drop k xs ≡ x ∷ drop (k + 1) xs
drop-item xs k x within is = drop-here xs k x within ∙ ap (λ y. y ∷ drop (k + 1) xs) (sym is)

-- what one thing makes was appended, and what those behind it make is left
pub made-more : {Y : Type 0} (old new one left later whole : List Y) → new ≡ old ++ one → left ≡ one ++ later → old ++ left ≡ whole → new ++ later ≡ whole
made-more old new one left later whole grown here before = ap (λ ys. ys ++ later) grown ∙ append_assoc old one later ∙ ap (λ ys. old ++ ys) (sym here) ∙ before

-- nothing is left
pub made-all : {Y : Type 0} (made left whole : List Y) → left ≡ [] → made ++ left ≡ whole → made ≡ whole
made-all made left whole none before = sym (ap (λ ys. made ++ ys) none ∙ append-nil made) ∙ before
