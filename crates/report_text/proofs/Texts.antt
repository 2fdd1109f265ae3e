-- Texts that grow at their end.
use Rattle.std.proofs.Common.{◌≡◌, ℕ, zero, suc, ◌+◌, List, [], ◌∷◌, ◌++◌, map, take, drop, sym, ap, ◌∙◌, append_assoc, append-nil, arith, Some}
use Rattle.std.specs.Prelude.{flat_map, slice_get}
use Rattle.std.specs.List.{range_with_len, join_with_byte}
use Rattle.std.proofs.lemmas.Grind.{flat_map-append}

range-more : (a n : ℕ) → range_with_len a (suc n) ≡ range_with_len a n ++ (a + n) ∷ []
range-more a zero = let same : a ≡ a + 0 = omega arith in ap (λ k. k ∷ []) same
range-more a (suc n) =
    let same : a + 1 + n ≡ a + suc n = omega arith in
    ap (λ rest. a ∷ rest) (range-more (a + 1) n) ∙ ap (λ k. a ∷ (range_with_len (a + 1) n ++ k ∷ [])) same

pub flat_map-range_more : {A : Type 0} (f : ℕ → List A) (n : ℕ) → flat_map f (range_with_len 0 (n + 1)) ≡ flat_map f (range_with_len 0 n) ++ f n
flat_map-range_more f n =
    let one : n + 1 ≡ suc n = omega arith in
    let last : 0 + n ≡ n = omega arith in
    ap (λ k. flat_map f (range_with_len 0 k)) one ∙ ap (flat_map f) (range-more 0 n) ∙ flat_map-append f (range_with_len 0 n) ((0 + n) ∷ [])
    ∙ ap (λ xs. flat_map f (range_with_len 0 n) ++ xs) (append-nil (f (0 + n)) ∙ ap f last)

take-more : {X : Type 0} (xs : List X) (k : ℕ) (x : X) → slice_get xs k ≡ Some x → take (suc k) xs ≡ take k xs ++ x ∷ []
take-more [] k x at = absurd (let no : ⊥ = cc in no)
take-more (y ∷ xs) zero x at = let same : y ≡ x = cc in ap (λ z. z ∷ []) same
take-more (y ∷ xs) (suc k) x at = ap (λ rest. y ∷ rest) (take-more xs k x at)

-- one more element, which stands at a place
pub flat_map-take_more : {X A : Type 0} (f : X → List A) (xs : List X) (k : ℕ) (x : X) → slice_get xs k ≡ Some x
    → flat_map f (take (k + 1) xs) ≡ flat_map f (take k xs) ++ f x
flat_map-take_more f xs k x at =
    let one : k + 1 ≡ suc k = omega arith in
    ap (λ n. flat_map f (take n xs)) one ∙ ap (flat_map f) (take-more xs k x at) ∙ flat_map-append f (take k xs) (x ∷ [])
    ∙ ap (λ ys. flat_map f (take k xs) ++ ys) (append-nil (f x))

-- parts that are joined by a byte, behind a first one
pub join-flat_map : {X : Type 0} (byte : ℕ) (f : X → List ℕ) (first : List ℕ) (xs : List X)
    → join_with_byte byte (first ∷ map f xs) ≡ first ++ flat_map (λ x. byte ∷ f x) xs
join-flat_map byte f first [] = sym (append-nil first)
join-flat_map byte f first (x ∷ xs) = ap (λ rest. first ++ byte ∷ rest) (join-flat_map byte f (f x) xs)

-- the same behind several
pub join-more : {X : Type 0} (byte : ℕ) (f : X → List ℕ) (first : List ℕ) (parts : List (List ℕ)) (xs : List X)
    → join_with_byte byte (first ∷ (parts ++ map f xs)) ≡ join_with_byte byte (first ∷ parts) ++ flat_map (λ x. byte ∷ f x) xs
join-more byte f first [] xs = join-flat_map byte f first xs
join-more byte f first (part ∷ parts) xs =
    ap (λ rest. first ++ byte ∷ rest) (join-more byte f part parts xs)
    ∙ sym (append_assoc first (byte ∷ join_with_byte byte (part ∷ parts)) (flat_map (λ x. byte ∷ f x) xs))

drop_suc : {X : Type 0} (xs : List X) (k : ℕ) (x : X) → slice_get xs k ≡ Some x → drop k xs ≡ x ∷ drop (suc k) xs
drop_suc [] k x at = absurd (let no : ⊥ = cc in no)
drop_suc (y ∷ xs) zero x at = let same : y ≡ x = cc in ap (λ z. z ∷ xs) same
drop_suc (y ∷ xs) (suc k) x at = drop_suc xs k x at

-- what is left from a place on begins with the element there
pub drop-get : {X : Type 0} (xs : List X) (k : ℕ) (x : X) → slice_get xs k ≡ Some x → drop k xs ≡ x ∷ drop (k + 1) xs
drop-get xs k x at = let one : suc k ≡ k + 1 = omega arith in drop_suc xs k x at ∙ ap (λ n. x ∷ drop n xs) one
