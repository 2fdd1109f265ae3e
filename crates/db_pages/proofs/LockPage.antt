-- The page of the locks in a text that grows.
use Rattle.std.proofs.Common.{◌≡◌, ℕ, zero, suc, ◌+◌, ◌-◌, ◌^◌, ◌<◌, ◌≤◌, List, [], ◌∷◌, ◌++◌, length, take, drop, replicate, sym, ◌∙◌, ap, arith, append_assoc, length-append, nat_le}
use Rattle.std.proofs.lemmas.Bool.{cond-true, cond-false, le-leb, lt-leb}
use Rattle.std.proofs.lemmas.List.{take-append-le, drop-append-le, take-append-drop, length-replicate}
use Rattle.db_pages.specs.Image.{with_lock_page}

take_past : (xs ys : List ℕ) (n : ℕ) → length xs ≤ n → take n (xs ++ ys) ≡ xs ++ take (n - length xs) ys
take_past [] ys n h = let e : n ≡ n - 0 = omega arith in ap (λ k. take k ys) e
take_past (x ∷ xs) ys zero h = absurd (let no : ⊥ = omega (arith, h) in no)
take_past (x ∷ xs) ys (suc n) h = let e : suc n - suc (length xs) ≡ n - length xs = omega arith in
    ap (λ zs. x ∷ zs) (take_past xs ys n (omega (arith, h))) ∙ ap (λ k. x ∷ xs ++ take k ys) (sym e)

drop_past : (xs ys : List ℕ) (n : ℕ) → length xs ≤ n → drop n (xs ++ ys) ≡ drop (n - length xs) ys
drop_past [] ys n h = let e : n ≡ n - 0 = omega arith in ap (λ k. drop k ys) e
drop_past (x ∷ xs) ys zero h = absurd (let no : ⊥ = omega (arith, h) in no)
drop_past (x ∷ xs) ys (suc n) h = let e : suc n - suc (length xs) ≡ n - length xs = omega arith in
    drop_past xs ys n (omega (arith, h)) ∙ ap (λ k. drop k ys) (sym e)

abbrev pub split_round : List ℕ → List ℕ
split_round bytes = take (2 ^ 30) bytes ++ (replicate 4096 0 ++ drop (2 ^ 30) bytes)

pub short_as_is : (bytes : List ℕ) → length bytes ≤ 2 ^ 30 → with_lock_page bytes ≡ bytes
unfolding with_lock_page
short_as_is bytes h = cond-true (nat_le (length bytes) (2 ^ 30)) bytes (split_round bytes) (le-leb (length bytes) (2 ^ 30) h)

pub long_split : (bytes : List ℕ) → 2 ^ 30 < length bytes → with_lock_page bytes ≡ split_round bytes
unfolding with_lock_page
long_split bytes h = cond-false (nat_le (length bytes) (2 ^ 30)) bytes (split_round bytes) (lt-leb (length bytes) (2 ^ 30) h)

-- a piece behind the page of the locks
pub piece_after : (so_far piece old new : List ℕ) (len : ℕ) → 2 ^ 30 < len → old ≡ with_lock_page so_far → length so_far ≡ len → new ≡ old ++ piece →
    new ≡ with_lock_page (so_far ++ piece)
piece_after so_far piece old new len past is size more =
    let longer : 2 ^ 30 < length (so_far ++ piece) = omega (arith, length-append so_far piece, size, past) in
    let front : List ℕ = take (2 ^ 30) so_far in
    let zeros : List ℕ = replicate 4096 0 in
    let back : List ℕ = drop (2 ^ 30) so_far in
    more ∙ ap (λ xs. xs ++ piece) (is ∙ long_split so_far (omega (arith, past, size)))
    ∙ append_assoc front (zeros ++ back) piece ∙ ap (λ xs. front ++ xs) (append_assoc zeros back piece)
    ∙ ap (λ xs. xs ++ (zeros ++ (back ++ piece))) (sym (take-append-le (2 ^ 30) so_far piece (omega (arith, past, size))))
    ∙ ap (λ xs. take (2 ^ 30) (so_far ++ piece) ++ (zeros ++ xs)) (sym (drop-append-le (2 ^ 30) so_far piece (omega (arith, past, size))))
    ∙ sym (long_split (so_far ++ piece) longer)

-- a piece before it
pub piece_before : (so_far piece old new : List ℕ) (len : ℕ) → len + length piece ≤ 2 ^ 30 → old ≡ with_lock_page so_far → length so_far ≡ len → new ≡ old ++ piece →
    new ≡ with_lock_page (so_far ++ piece)
piece_before so_far piece old new len short is size more =
    more ∙ ap (λ xs. xs ++ piece) (is ∙ short_as_is so_far (omega (arith, short, size)))
    ∙ sym (short_as_is (so_far ++ piece) (omega (arith, length-append so_far piece, size, short)))

-- a piece round it
pub piece_round : (so_far piece front back zeros old first second new : List ℕ) (len : ℕ) → len ≤ 2 ^ 30 → 2 ^ 30 < len + length piece →
    old ≡ with_lock_page so_far → length so_far ≡ len → front ≡ take (2 ^ 30 - len) piece → back ≡ drop (2 ^ 30 - len) piece → zeros ≡ replicate 4096 0 →
    first ≡ old ++ front → second ≡ first ++ zeros → new ≡ second ++ back → new ≡ with_lock_page (so_far ++ piece)
piece_round so_far piece front back zeros old first second new len short past is size one two none a b c =
    let longer : 2 ^ 30 < length (so_far ++ piece) = omega (arith, length-append so_far piece, size, past) in
    let start : first ≡ so_far ++ front = a ∙ ap (λ xs. xs ++ front) (is ∙ short_as_is so_far (omega (arith, short, size))) in
    let same : 2 ^ 30 - len ≡ 2 ^ 30 - length so_far = ap (λ n. 2 ^ 30 - n) (sym size) in
    let taken : so_far ++ front ≡ take (2 ^ 30) (so_far ++ piece) =
    ap (λ xs. so_far ++ xs) (one ∙ ap (λ n. take n piece) same) ∙ sym (take_past so_far piece (2 ^ 30) (omega (arith, size, short))) in
    let left : back ≡ drop (2 ^ 30) (so_far ++ piece) = two ∙ ap (λ n. drop n piece) same ∙ sym (drop_past so_far piece (2 ^ 30) (omega (arith, size, short))) in
    c ∙ ap (λ xs. xs ++ back) (b ∙ ap (λ xs. first ++ xs) none)
    ∙ append_assoc first (replicate 4096 0) back
    ∙ ap (λ xs. xs ++ (replicate 4096 0 ++ back)) (start ∙ taken)
    ∙ ap (λ xs. take (2 ^ 30) (so_far ++ piece) ++ (replicate 4096 0 ++ xs)) left
    ∙ sym (long_split (so_far ++ piece) longer)

pub long-size : (bytes : List ℕ) → 2 ^ 30 < length bytes → length (with_lock_page bytes) ≡ length bytes + 4096
long-size bytes long =
    split-size (take (2 ^ 30) bytes) (replicate 4096 0) (drop (2 ^ 30) bytes) bytes (with_lock_page bytes) (long_split bytes long) (take-append-drop (2 ^ 30) bytes) (length-replicate {A = ℕ} 4096 0)
  where
    split-size : (low zeros high all file : List ℕ) → file ≡ low ++ (zeros ++ high) → low ++ high ≡ all → length zeros ≡ 4096 → length file ≡ length all + 4096
    split-size low zeros high all file is whole size =
        omega (arith, ap length is, ap length whole, size, length-append low (zeros ++ high), length-append zeros high, length-append low high)
