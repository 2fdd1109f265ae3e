-- Masks of lanes of which the first are passed over.
use Rattle.std.proofs.Common.{◌≡◌, ℕ, zero, suc, ◌+◌, ◌*◌, ◌/◌, ◌^◌, ◌≤◌, Bool, true, false, cond, List, [], ◌∷◌, map, drop, length, sym, ◌∙◌, ap, arith}
use Rattle.std.proofs.Math.Nat.{div-div-eq-div-mul, mul_comm, pow-suc}
use lib.Lanes.{mask_l}

half : (b : Bool) (m : ℕ) → (cond b 1 0 + 2 * m) / 2 ≡ m
half true m = omega arith
half false m = omega arith

pub mask-drop : {X : Type 0} (test : X → Bool) (passed : ℕ) (lanes : List X) → passed ≤ length lanes → mask_l (map test (drop passed lanes)) ≡ mask_l (map test lanes) / 2 ^ passed
mask-drop test zero lanes le = omega arith
mask-drop test (suc passed) [] le = absurd (let no : ⊥ = omega (arith, le) in no)
mask-drop test (suc passed) (lane ∷ lanes) le =
    mask-drop test passed lanes (omega (arith, le))
    ∙ ap (λ n. n / 2 ^ passed) (sym (half (test lane) (mask_l (map test lanes))))
    ∙ div-div-eq-div-mul (mask_l (map test (lane ∷ lanes))) 2 (2 ^ passed)
    ∙ ap (λ p. mask_l (map test (lane ∷ lanes)) / p) (mul_comm 2 (2 ^ passed) ∙ sym (pow-suc 2 passed))
