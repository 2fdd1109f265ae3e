-- Pieces one behind another.
use Rattle.std.proofs.Common.{◌≡◌, ℕ, List, [], ◌∷◌, ◌++◌, length, refl, sym, ap, arith, ◌∙◌, append_assoc, append-nil, Vec, Global}
use Rattle.std.specs.Prelude.{flat_map}

abbrev pub text_of : List (Vec ℕ Global) → List ℕ
text_of pieces = flat_map (λ (piece : Vec ℕ Global). piece.items) pieces

pub text_of-append : (xs ys : List (Vec ℕ Global)) → text_of (xs ++ ys) ≡ text_of xs ++ text_of ys
text_of-append [] ys = refl
text_of-append (x ∷ xs) ys = ap (λ rest. x.items ++ rest) (text_of-append xs ys) ∙ sym (append_assoc x.items (text_of xs) (text_of ys))

-- the pieces so far and one more, behind others
pub one_more : (first : List ℕ) (pieces : List (Vec ℕ Global)) (piece : Vec ℕ Global) → (first ++ text_of pieces) ++ piece.items ≡ first ++ text_of (pieces ++ piece ∷ [])
one_more first pieces piece =
    append_assoc first (text_of pieces) piece.items
    ∙ ap (λ xs. first ++ (text_of pieces ++ xs)) (sym (append-nil piece.items))
    ∙ ap (λ xs. first ++ xs) (sym (text_of-append pieces (piece ∷ [])))

pub none_left : (first : List ℕ) (pieces left all : List (Vec ℕ Global)) → pieces ++ left ≡ all → 0 ≡ length left → first ++ text_of pieces ≡ first ++ text_of all
none_left first pieces [] all is none = ap (λ ps. first ++ text_of ps) (sym (append-nil pieces) ∙ is)
none_left first pieces (x ∷ left) all is none = absurd (let no : ⊥ = omega (arith, none) in no)
