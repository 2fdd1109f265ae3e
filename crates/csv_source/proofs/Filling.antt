-- Bytes that came behind the front of a memory.
use Rattle.std.proofs.Common.{◌≡◌, ℕ, ◌+◌, ◌≤◌, List, [], ◌++◌, length, take, sym, ap, ◌∙◌, arith, drop, length-append, length-take, length-drop, ◌-◌}
use borrow.Rule.Slice.PartMut.{post_of}
use Rattle.std.proofs.lemmas.List.{take-take, take-append-le}
use Rattle.std.proofs.Math.Seq.{take-append-add}

-- a memory that grew holds its front still, and behind it the bytes that came
pub front_and_came : (filled count : ℕ) (old memory buf rest now : List ℕ) → now ≡ take filled old → filled ≤ length old → take (length old) memory ≡ old → count ≤ length buf
    → take (filled + count) (take filled memory ++ (buf ++ rest)) ≡ now ++ take count buf
front_and_came filled count old memory buf rest now is within same fits =
    let front : take filled memory ≡ now = sym (take-take filled (length old) memory within) ∙ ap (take filled) same ∙ sym is in
    let size : length (take filled memory) ≡ filled = ap length (front ∙ is) ∙ omega (arith, length-take filled old) in
    ap (λ n. take (n + count) (take filled memory ++ (buf ++ rest))) (sym size)
    ∙ take-append-add (take filled memory) (buf ++ rest) count
    ∙ ap (λ xs. take filled memory ++ xs) (take-append-le count buf rest fits)
    ∙ ap (λ xs. xs ++ take count buf) front

-- and where none came its front alone
pub front_stays : (filled : ℕ) (old memory buf rest now : List ℕ) → now ≡ take filled old → filled ≤ length old → take (length old) memory ≡ old
    → take filled (take filled memory ++ (buf ++ rest)) ≡ now ++ []
front_stays filled old memory buf rest now is within same =
    let none : filled ≡ filled + 0 = omega arith in
    ap (λ n. take n (take filled memory ++ (buf ++ rest))) none ∙ front_and_came filled 0 old memory buf rest now is within same (omega arith)

-- what is written over a part is as long as what it is written over
pub written_length : (filled room : ℕ) (memory buf : List ℕ) → filled + room ≤ length memory → length buf ≡ filled + room - filled
    → length (take filled memory ++ (buf ++ post_of filled (filled + room - filled) memory)) ≡ length memory
written_length filled room memory buf within size =
    let rest = post_of filled (filled + room - filled) memory in
    let behind : length rest ≡ length memory - (filled + room) = omega (arith, length-drop filled memory, length-drop (filled + room - filled) (drop filled memory)) in
    omega (arith, length-append (take filled memory) (buf ++ rest), length-append buf rest, length-take filled memory, behind)
