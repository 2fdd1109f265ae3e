-- Tables of registers, looked at entry by entry.
use Rattle.std.proofs.Common.{◌≡◌, ℕ, zero, suc, ◌+◌, ◌<◌, ◌&&◌, Bool, true, List, [], ◌∷◌, length, get_or, nat_eq, ap, ◌∙◌, arith}
use Rattle.std.proofs.lemmas.Bool.{and_parts, eqb-true}
use Rattle.zip_archive.specs.Crc.{zeros}

-- whether each entry, counted from a byte on, is what this byte comes to behind zeros
abbrev pub entries_are : ℕ → ℕ → List ℕ → Bool
entries_are k b [] = true
entries_are k b (x ∷ xs) = nat_eq x (zeros k b) && entries_are k (suc b) xs

entry-from : (k b : ℕ) (xs : List ℕ) (i j : ℕ) → entries_are k b xs ≡ true → i < length xs → b + i ≡ j → get_or xs i 0 ≡ zeros k j
entry-from k b [] i j are lt at = absurd (omega arith)
entry-from k b (x ∷ xs) zero j are lt at =
    let here : b ≡ j = omega arith in
    eqb-true x (zeros k b) (and_parts (nat_eq x (zeros k b)) (entries_are k (suc b) xs) are).0 ∙ ap (zeros k) here
entry-from k b (x ∷ xs) (suc i) j are lt at =
    entry-from k (suc b) xs i j (and_parts (nat_eq x (zeros k b)) (entries_are k (suc b) xs) are).1 (omega arith) (omega arith)

pub entry-at : (k : ℕ) (xs : List ℕ) (i : ℕ) → entries_are k 0 xs ≡ true → i < length xs → get_or xs i 0 ≡ zeros k i
entry-at k xs i are lt = entry-from k 0 xs i i are lt (omega arith)
