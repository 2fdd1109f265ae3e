-- Pieces that are read one after another are read as one.
use Rattle.std.proofs.Common.{◌≡◌, ℕ, zero, suc, ◌+◌, ◌&&◌, not, cond, Bool, true, false, length, List, [], ◌∷◌, ◌++◌, take, drop, refl, sym, ◌∙◌, ap, ap₂, arith, append_assoc}
use Rattle.std.specs.Prelude.{nat_lt, nat_eq}
use Rattle.std.proofs.lemmas.List.{take-append-drop, drop-drop}
use Rattle.std.specs.Cmp.Lexicographic.{pointwise}
use Rattle.byte_classes.specs.ByteOrderMark.{byte_order_mark}
use Rattle.byte_classes.specs.Class.{class_of}
use Rattle.part_cuts.specs.Cut.{begins_filled}
use Rattle.part_cuts.specs.Laws.{PiecesAddUp}
use Rattle.part_cuts.specs.Reading.{Reading, begins_part, begun, behind, reading}

-- ---- only two bytes behind those that are read matter

one_of_two : (l m : List ℕ) → take 2 l ≡ take 2 m → take 1 l ≡ take 1 m
one_of_two l m same = sym (front l) ∙ (ap (take 1) same ∙ front m) where
  front : (l : List ℕ) → take 1 (take 2 l) ≡ take 1 l
  front [] = refl
  front (x ∷ l) = refl

two_of : (bytes l m : List ℕ) → take 2 l ≡ take 2 m → take 2 (bytes ++ l) ≡ take 2 (bytes ++ m)
two_of [] l m same = same
two_of (x ∷ []) l m same = ap (λ (t : List ℕ). x ∷ t) (one_of_two l m same)
two_of (x ∷ y ∷ bytes) l m same = refl

same_part : (r : Reading) (b : ℕ) (l m : List ℕ) → take 2 l ≡ take 2 m → begins_part r (b ∷ l) ≡ begins_part r (b ∷ m)
same_part r b l m same =
    ap (λ (t : List ℕ). (begins_filled r.state (class_of r.rule.dialect b) && not (pointwise nat_eq byte_order_mark (b ∷ t))) && not (nat_lt r.tally.bytes r.due)) same

two_seen : (r : Reading) (bytes l m : List ℕ) → take 2 l ≡ take 2 m → reading r bytes l ≡ reading r bytes m
two_seen r [] l m same = refl
two_seen r (b ∷ bytes) l m same =
    two_seen (behind (cond (begins_part r (b ∷ (bytes ++ l))) (begun r) r) b) bytes l m same
    ∙ ap (λ t. reading (behind (cond t (begun r) r) b) bytes m) (same_part r b (bytes ++ l) (bytes ++ m) (two_of bytes l m same))

-- ---- two pieces

pub reading_append : (r : Reading) (xs ys seen : List ℕ) → reading (reading r xs (ys ++ seen)) ys seen ≡ reading r (xs ++ ys) seen
reading_append r [] ys seen = refl
reading_append r (b ∷ xs) ys seen =
    ap (λ (l : List ℕ). reading (reading (behind (cond (begins_part r (b ∷ l)) (begun r) r) b) xs (ys ++ seen)) ys seen) (sym (append_assoc xs ys seen))
    ∙ reading_append (behind (cond (begins_part r (b ∷ ((xs ++ ys) ++ seen))) (begun r) r) b) xs ys seen

pub pieces_add_up : PiecesAddUp
pieces_add_up r xs ys seen front same = ap (λ q. reading q ys seen) (two_seen r xs front (ys ++ seen) same) ∙ reading_append r xs ys seen

-- ---- along one list

take_join : (n k : ℕ) (bytes : List ℕ) → take n bytes ++ take k (drop n bytes) ≡ take (n + k) bytes
take_join zero k bytes = let same : k ≡ 0 + k = omega arith in ap (λ i. take i bytes) same
take_join (suc n) k [] = let same : suc (n + k) ≡ suc n + k = omega arith in none k ∙ ap (λ i. take {A = ℕ} i []) same where
  none : (k : ℕ) → take {A = ℕ} k [] ≡ []
  none zero = refl
  none (suc k) = refl
take_join (suc n) k (b ∷ bytes) = let same : suc (n + k) ≡ suc n + k = omega arith in ap (λ (l : List ℕ). b ∷ l) (take_join n k bytes) ∙ ap (λ i. take i (b ∷ bytes)) same

-- the reading of a front, gone on over what is behind it, is that of a longer front
pub goes_on : (r q : Reading) (bytes : List ℕ) (n k : ℕ) → q ≡ reading r (take n bytes) (drop n bytes) →
    reading q (take k (drop n bytes)) (drop k (drop n bytes)) ≡ reading r (take (n + k) bytes) (drop (n + k) bytes)
goes_on r q bytes n k is =
    ap (λ p. reading p (take k (drop n bytes)) (drop k (drop n bytes))) (is ∙ ap (reading r (take n bytes)) (sym (take-append-drop k (drop n bytes))))
    ∙ (reading_append r (take n bytes) (take k (drop n bytes)) (drop k (drop n bytes))
    ∙ ap₂ (reading r) (take_join n k bytes) (drop-drop k n bytes))

-- each byte is counted
pub reading_bytes : (r : Reading) (bytes seen : List ℕ) → (reading r bytes seen).tally.bytes ≡ r.tally.bytes + length bytes
reading_bytes r [] seen = let same : r.tally.bytes ≡ r.tally.bytes + 0 = omega arith in same
reading_bytes r (b ∷ bytes) seen =
    let begins : Bool = begins_part r (b ∷ (bytes ++ seen)) in
    let one : (cond begins (begun r) r).tally.bytes ≡ r.tally.bytes = kept begins in
    let rest = reading_bytes (behind (cond begins (begun r) r) b) bytes seen in
    omega (arith, one, rest)
  where
    kept : (t : Bool) → (cond t (begun r) r).tally.bytes ≡ r.tally.bytes
    kept true = refl
    kept false = refl
