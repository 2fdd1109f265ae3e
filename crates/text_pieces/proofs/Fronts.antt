-- What a sink takes of texts that are written one after another.
use Rattle.std.proofs.Common.{◌≡◌, ℕ, zero, suc, ◌+◌, ◌<◌, ◌≤◌, List, [], ◌∷◌, ◌++◌, Option, Result, Ok, Err, length, take, drop, get_or, refl, sym, ap, ◌∙◌, subst, append_assoc, append-nil, take-append-drop, drop-cons, arith, Vec, Global}
use Rattle.std.specs.Prelude.{OnOk, flat_map}
use Rattle.std.specs.Io.KnownBytes.{Appends}
use Rattle.std.proofs.KnownBytes.{Appends-trans}
use Rattle.std.proofs.lemmas.List.{take_all, take_more}
use Rattle.csv_source.specs.Causes.{HasCause, Rose}
use Rattle.csv_source.specs.Moves.{AppendsFront}

-- ---- fronts of two texts

take_behind : (xs ys : List ℕ) (n : ℕ) → take (length xs + n) (xs ++ ys) ≡ xs ++ take n ys
take_behind [] ys n = let same : 0 + n ≡ n = omega arith in ap (λ k. take k ys) same
take_behind (x ∷ xs) ys n =
    let one : suc (length xs) + n ≡ suc (length xs + n) = omega arith in ap (λ k. take k (x ∷ (xs ++ ys))) one ∙ ap (λ rest. x ∷ rest) (take_behind xs ys n)

take_front : (xs ys : List ℕ) (n : ℕ) → n ≤ length xs → take n (xs ++ ys) ≡ take n xs
take_front xs ys zero within = refl
take_front [] ys (suc n) within = absurd (let no : ⊥ = omega (arith, within) in no)
take_front (x ∷ xs) ys (suc n) within = ap (λ rest. x ∷ rest) (take_front xs ys n (omega (arith, within)))

length_both : (xs ys : List ℕ) → length (xs ++ ys) ≡ length xs + length ys
length_both [] ys = omega arith
length_both (x ∷ xs) ys = omega (arith, length_both xs ys)

-- a whole text, and a front of the next one
pub front_behind : (a b c : Option (List ℕ)) (xs ys : List ℕ) → Appends a b xs → AppendsFront b c ys → AppendsFront a c (xs ++ ys)
front_behind a b c xs ys first (n, within, second) =
    (length xs + n, omega (arith, within, length_both xs ys), subst (Appends a c) (sym (take_behind xs ys n)) (Appends-trans a b c xs (take n ys) first second))

-- a front of the first text
pub front_before : (a c : Option (List ℕ)) (xs ys : List ℕ) → AppendsFront a c xs → AppendsFront a c (xs ++ ys)
front_before a c xs ys (n, within, some) =
    (n, omega (arith, within, length_both xs ys), subst (Appends a c) (sym (take_front xs ys n within)) some)

-- the whole text is a front of it
pub whole_front : (a c : Option (List ℕ)) (xs : List ℕ) → Appends a c xs → AppendsFront a c xs
whole_front a c xs whole = (length xs, omega arith, subst (Appends a c) (sym (take_all (length xs) xs (omega arith))) whole)

-- ---- the second of two writes

pub ok_behind : {T E : Type 0} (r : Result T E) (a b c : Option (List ℕ)) (xs ys : List ℕ) → Appends a b xs → OnOk r (Appends b c ys) → OnOk r (Appends a c (xs ++ ys))
ok_behind (Ok v) a b c xs ys first second = Appends-trans a b c xs ys first second
ok_behind (Err e) a b c xs ys first second = tt

pub cause_behind : {T E : Type 0} (r : Result T E) (a b c : ℕ) → a ≤ b → HasCause b c r → HasCause a c r
cause_behind (Ok v) a b c before cause = record { later = omega (arith, before, cause.later); failed = tt }
cause_behind (Err e) a b c before cause = record { later = omega (arith, before, cause.later); failed = omega (arith, before, cause.failed) }

pub cause_failed : {T E : Type 0} (r : Result T E) (a b c : ℕ) → a ≤ b → b ≤ c → Rose b c → HasCause a c r
cause_failed (Ok v) a b c before later rose = record { later = omega (arith, before, later); failed = tt }
cause_failed (Err e) a b c before later rose = record { later = omega (arith, before, later); failed = omega (arith, before, rose) }

-- ---- pieces

abbrev pub text_of : List (Vec ℕ Global) → List ℕ
text_of pieces = flat_map (λ (piece : Vec ℕ Global). piece.items) pieces

text_of-append : (xs ys : List (Vec ℕ Global)) → text_of (xs ++ ys) ≡ text_of xs ++ text_of ys
text_of-append [] ys = refl
text_of-append (x ∷ xs) ys = ap (λ rest. x.items ++ rest) (text_of-append xs ys) ∙ sym (append_assoc x.items (text_of xs) (text_of ys))

pub text_of-one_more : (pieces : List (Vec ℕ Global)) (piece : Vec ℕ Global) → text_of (pieces ++ piece ∷ []) ≡ text_of pieces ++ piece.items
text_of-one_more pieces piece = text_of-append pieces (piece ∷ []) ∙ ap (λ xs. text_of pieces ++ xs) (append-nil piece.items)

-- the pieces up to a place and the one there
pub text_of-take_more : (pieces : List (Vec ℕ Global)) (at : ℕ) (piece : Vec ℕ Global) → at < length pieces → piece ≡ get_or pieces at piece →
    text_of (take (at + 1) pieces) ≡ text_of (take at pieces) ++ piece.items
text_of-take_more pieces at piece within is =
    ap text_of (take_more pieces at piece within ∙ ap (λ p. take at pieces ++ p ∷ []) (sym is)) ∙ text_of-one_more (take at pieces) piece

-- the text, cut behind a piece
pub text_of-cut : (pieces : List (Vec ℕ Global)) (at : ℕ) (piece : Vec ℕ Global) → at < length pieces → piece ≡ get_or pieces at piece →
    text_of pieces ≡ text_of (take at pieces) ++ (piece.items ++ text_of (drop (suc at) pieces))
text_of-cut pieces at piece within is =
    sym (ap text_of (take-append-drop at pieces))
    ∙ text_of-append (take at pieces) (drop at pieces)
    ∙ ap (λ rest. text_of (take at pieces) ++ text_of rest) (drop-cons pieces at piece within ∙ ap (λ p. p ∷ drop (suc at) pieces) (sym is))
