-- Where the next line begins, of bytes behind others.
use Rattle.std.proofs.Common.{◌≡◌, ℕ, suc, ◌+◌, true, false, cond, List, ◌∷◌, drop, get_or, ◌∙◌, ap, arith}
use Rattle.std.proofs.lemmas.Bool.Decides.{nat_tests}
use Rattle.std.proofs.lemmas.List.{get_or-drop}
use Rattle.std.specs.Prelude.{◌&&◌, ◌==◌}
use Rattle.row_fields.specs.Next.{line_end_len, next_start}

-- ---- the line end at a byte, and the byte behind it

pub no_pair : (b c : ℕ) → b == 10 ≡ true → (b == 13 && (c == 10)) ≡ false
no_pair b c h = grind (arith, nat_tests)

pub lone_cr : (b c : ℕ) → c == 10 ≡ false → (b == 13 && (c == 10)) ≡ false
lone_cr b c h = grind (arith, nat_tests)

pub pair : (b c : ℕ) → b == 13 ≡ true → c == 10 ≡ true → (b == 13 && (c == 10)) ≡ true
pair b c h k = λ i. h i && (k i)

-- ---- bytes behind others

pub next_start-suc : (b : ℕ) (bytes : List ℕ) (k : ℕ) → next_start (b ∷ bytes) (suc k) ≡ suc (next_start bytes k)
next_start-suc b bytes k = omega arith

pub next_start-drop : (bytes : List ℕ) (at n : ℕ) → at + next_start (drop at bytes) n ≡ next_start bytes (at + n)
next_start-drop bytes at n =
    let far : at + suc n ≡ suc (at + n) = omega arith in
    let first : get_or (drop at bytes) n 0 ≡ get_or bytes (at + n) 0 = get_or-drop at bytes n 0 in
    let second : get_or (drop at bytes) (suc n) 0 ≡ get_or bytes (suc (at + n)) 0 = get_or-drop at bytes (suc n) 0 ∙ ap (λ k. get_or bytes k 0) far in
    let same : line_end_len (drop at bytes) n ≡ line_end_len bytes (at + n) = λ i. cond (first i == 13 && (second i == 10)) 2 1 in
    omega (arith, same)
