-- Masks of lanes that pass tests.
use Rattle.std.proofs.Common.{◌≡◌, ℕ, ◌+◌, ◌*◌, ◌%◌, ◌^◌, ◌<◌, Bool, true, false, cond, ◌||◌, List, [], ◌∷◌, length, map, refl, ◌∙◌, ap, ap₂, arith}
use Rattle.std.specs.Prelude.{◌==◌}
use Rattle.std.proofs.lemmas.List.{length-map}
use Rattle.std.proofs.lemmas.Nat.{or_block}
use Rattle.std.proofs.lemmas.Simd.{map-map, mask_l-mod}
use lib.Bits.{bit_or}
use lib.Lanes.{mask_l, top}
use Rattle.byte_classes.specs.Special.{is_one_of}

either : (a b : Bool) → bit_or (cond a 1 0) (cond b 1 0) ≡ cond (a || b) 1 0
either true true = refl
either true false = refl
either false true = refl
either false false = refl

small : (b : Bool) → cond {A = ℕ} b 1 0 < 2 ^ 1
small true = omega arith
small false = omega arith

-- the lanes that pass one of two tests
pub or_mask : {X : Type 0} (p q : X → Bool) (xs : List X) → bit_or (mask_l (map p xs)) (mask_l (map q xs)) ≡ mask_l (map (λ x. p x || q x) xs)
or_mask p q [] = refl
or_mask p q (x ∷ xs) =
    let a : ℕ = mask_l (map p xs) in
    let b : ℕ = mask_l (map q xs) in
    let left : cond (p x) 1 0 + 2 * a ≡ a * 2 ^ 1 + cond (p x) 1 0 = omega arith in
    let right : cond (q x) 1 0 + 2 * b ≡ b * 2 ^ 1 + cond (q x) 1 0 = omega arith in
    let whole : bit_or a b * 2 ^ 1 + cond (p x || q x) 1 0 ≡ cond (p x || q x) 1 0 + 2 * bit_or a b = omega arith in
    ap₂ bit_or left right ∙ or_block 1 a b (cond (p x) 1 0) (cond (q x) 1 0) (small (p x)) (small (q x))
    ∙ ap (λ n. bit_or a b * 2 ^ 1 + n) (either (p x) (q x))
    ∙ whole ∙ ap (λ n. cond (p x || q x) 1 0 + 2 * n) (or_mask p q xs)

-- the lanes of three comparisons that were joined
abbrev pub joined_lane : ℕ → ℕ → ℕ → ℕ → ℕ
joined_lane a b c x = bit_or (bit_or (cond (x == a) 255 0) (cond (x == b) 255 0)) (cond (x == c) 255 0)

top_of_joined : (a b c : Bool) → top 7 (bit_or (bit_or (cond a 255 0) (cond b 255 0)) (cond c 255 0)) ≡ ((a || b) || c)
top_of_joined true true true = refl
top_of_joined true true false = refl
top_of_joined true false true = refl
top_of_joined true false false = refl
top_of_joined false true true = refl
top_of_joined false true false = refl
top_of_joined false false true = refl
top_of_joined false false false = refl

tops_of_joined : (a b c : ℕ) (lanes : List ℕ) → map (λ x. top 7 (joined_lane a b c x)) lanes ≡ map (is_one_of a b c) lanes
tops_of_joined a b c [] = refl
tops_of_joined a b c (x ∷ xs) = λ i. top_of_joined (x == a) (x == b) (x == c) i ∷ tops_of_joined a b c xs i

-- one mask of the joined lanes
pub mask_of_joined : (a b c : ℕ) (lanes joined : List ℕ) → length lanes ≡ 64 → joined ≡ map (joined_lane a b c) lanes → mask_l (map (top 7) joined) % 2 ^ 64 ≡ mask_l (map (is_one_of a b c) lanes)
mask_of_joined a b c lanes joined long is =
    ap (λ ms. mask_l ms % 2 ^ 64) (ap (map (top 7)) is ∙ map-map (top 7) (joined_lane a b c) lanes ∙ tops_of_joined a b c lanes)
    ∙ mask_l-mod (map (is_one_of a b c) lanes) 64 (omega (arith, length-map lanes (is_one_of a b c), long))
