-- The first faults of an input need no more than the first ones of each part.
use Rattle.std.proofs.Common.{◌≡◌, ℕ, zero, suc, List, [], ◌∷◌, ◌++◌, map, take, refl, sym, ◌∙◌, ap}
use Rattle.std.specs.Prelude.{flat_map}
use Rattle.std.specs.List.{take-map}
use Rattle.part_cuts.specs.declared.part.Part.{Part}
use Rattle.csv_sniffer.specs.Input.{found}
use Rattle.reject_book.specs.declared.reject.Reject.{Reject}
use Rattle.loader_reply.specs.Reading.{reading, faults}
use Rattle.table_laws.specs.PartLaws.{placed, alone, part_bytes, head_of, input_parts, lines_before, bytes_before, FirstFaultsAreOfParts}
use Rattle.table_laws.proofs.AloneParts.{parts_are_loaded_alone}

-- of two lists
front_of_front : (n : ℕ) (l : List Reject) → take n (take (suc n) l) ≡ take n l
front_of_front zero [] = refl
front_of_front zero (x ∷ l) = refl
front_of_front (suc n) [] = refl
front_of_front (suc n) (x ∷ l) = ap (λ r. x ∷ r) (front_of_front n l)

first_of_rest : (n : ℕ) (xs ys zs : List Reject) → take n ys ≡ take n zs → take n (xs ++ ys) ≡ take n (xs ++ zs)
first_of_rest n [] ys zs same = same
first_of_rest zero (x ∷ xs) ys zs same = refl
first_of_rest (suc n) (x ∷ xs) ys zs same = ap (λ l. x ∷ l) (first_of_rest n xs ys zs (sym (front_of_front n ys) ∙ ap (take n) same ∙ front_of_front n zs))

first_of_first : (n : ℕ) (xs ys : List Reject) → take n (xs ++ ys) ≡ take n (take n xs ++ ys)
first_of_first zero xs ys = none (xs ++ ys) ∙ sym (none (take zero xs ++ ys)) where
  none : (l : List Reject) → take zero l ≡ []
  none [] = refl
  none (x ∷ l) = refl
first_of_first (suc n) [] ys = refl
first_of_first (suc n) (x ∷ xs) ys = ap (λ l. x ∷ l) (first_of_first n xs ys)

-- of the faults of many things
first_of_all : {P : Type 0} (n : ℕ) (move : P → Reject → Reject) (of : P → List Reject) (ps : List P) →
    take n (flat_map (λ p. map (move p) (of p)) ps) ≡ take n (flat_map (λ p. map (move p) (take n (of p))) ps)
first_of_all n move of [] = refl
first_of_all n move of (p ∷ ps) =
    first_of_first n (map (move p) (of p)) (flat_map (λ q. map (move q) (of q)) ps)
    ∙ first_of_rest n (take n (map (move p) (of p))) (flat_map (λ q. map (move q) (of q)) ps) (flat_map (λ q. map (move q) (take n (of q))) ps) (first_of_all n move of ps)
    ∙ ap (λ l. take n (l ++ flat_map (λ q. map (move q) (take n (of q))) ps)) (take-map (move p) n (of p))

pub first_faults_are_of_parts : FirstFaultsAreOfParts
first_faults_are_of_parts o input size n accepted =
    let head : List ℕ = head_of o input in
    ap (take n) (parts_are_loaded_alone o input size accepted).faults
    ∙ first_of_all n (λ (part : Part). placed (lines_before head part) (bytes_before head part)) (λ part. faults (reading (alone o (found o input)) (head ++ part_bytes input part))) (input_parts o input size)
