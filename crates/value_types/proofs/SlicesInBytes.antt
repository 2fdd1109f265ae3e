-- Parts of bytes that lie behind one another.
use Rattle.std.proofs.Common.{◌≡◌, ℕ, suc, ◌+◌, ◌-◌, ◌<◌, ◌≤◌, sym, ap, ◌∙◌, arith, List, ◌∷◌, ◌++◌, length, get_or, take, drop, length-take, length-drop}
use Rattle.std.specs.Prelude.{slice_range}
use Rattle.std.proofs.lemmas.List.{take-append-drop, take-take, drop-take, drop-drop, drop_more}

pub length-slice : (bytes : List ℕ) (from end : ℕ) → end ≤ length bytes → length (slice_range bytes from end) ≡ end - from
length-slice bytes from end within = length-take (end - from) (drop from bytes) ∙ omega (arith, length-drop from bytes)

pub slice_split : (bytes : List ℕ) (from middle end : ℕ) → from ≤ middle → middle ≤ end → end ≤ length bytes →
    slice_range bytes from end ≡ slice_range bytes from middle ++ slice_range bytes middle end
slice_split bytes from middle end first second within =
    let whole : List ℕ = slice_range bytes from end in
    let count : middle - from + (end - middle) ≡ end - from = omega arith in
    let at : from + (middle - from) ≡ middle = omega arith in
    let front : take (middle - from) whole ≡ slice_range bytes from middle = take-take (middle - from) (end - from) (drop from bytes) (omega arith) in
    let back : drop (middle - from) whole ≡ slice_range bytes middle end =
    ap (λ n. drop (middle - from) (take n (drop from bytes))) (sym count)
    ∙ drop-take (middle - from) (end - middle) (drop from bytes)
    ∙ ap (take (end - middle)) (drop-drop (middle - from) from bytes ∙ ap (λ n. drop n bytes) at) in
    sym (take-append-drop (middle - from) whole) ∙ λ i. front i ++ back i

pub slice_first : (bytes : List ℕ) (from end b : ℕ) → get_or bytes from 0 ≡ b → from < end → end ≤ length bytes →
    slice_range bytes from end ≡ b ∷ slice_range bytes (from + 1) end
slice_first bytes from end b is some within =
    let count : end - from ≡ suc (end - (from + 1)) = omega arith in
    (λ i. take (count i) (drop_more bytes from 0 (omega arith) i)) ∙ ap (λ x. x ∷ slice_range bytes (from + 1) end) is
