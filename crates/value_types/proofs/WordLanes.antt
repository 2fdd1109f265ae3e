-- What `&`, `|`, `^`, sums and shifts do to the bytes of a word.
use Rattle.std.proofs.Common.{◌≡◌, ℕ, zero, suc, ◌+◌, ◌-◌, ◌*◌, ◌^◌, ◌<◌, Bool, true, false, ◌&&◌, T, bit_and, bit_or, bit_xor, refl, sym, ap, ◌∙◌, subst, inl, inr, arith, List, [], ◌∷◌, length, map, eq-zero-or-pos}
use Rattle.std.specs.Simd.Lanes.{Each1, number_l}
use Rattle.std.proofs.lemmas.Nat.{and_block, or_block, xor_block, and_mask}
use lib.Ieee.Fits.{and_l, and_r}
use mathlib.Core.Bool.{beq}

-- ---- what can be computed at each byte

abbrev pub all_below : (ℕ → Bool) → ℕ → Bool
all_below p zero = true
all_below p (suc n) = p n && all_below p n

pub every_below : (p : ℕ → Bool) (n : ℕ) → T (all_below p n) → (i : ℕ) → i < n → T (p i)
every_below p zero h i l = absurd (omega arith)
every_below p (suc n) h i l = elim (eq-zero-or-pos (n - i)) [
  | inl z ↦ let e : n ≡ i = omega arith in subst (λ x. T (p x)) e (and_l _ _ h)
  | inr g ↦ every_below p n (and_r (p n) _ h) i (omega arith)
]

pub beq_is : (a b : Bool) → T (beq a b) → a ≡ b
beq_is true true t = refl
beq_is true false t = absurd t
beq_is false true t = absurd t
beq_is false false t = refl

-- ---- lists of eight

pub eight : {A : Type 0} (P : List A → Type 0) → ((a b c d e f g h : A) → P (a ∷ b ∷ c ∷ d ∷ e ∷ f ∷ g ∷ h ∷ [])) → (xs : List A) → length xs ≡ 8 → P xs
eight P each [] is = absurd (omega arith)
eight P each (a ∷ []) is = absurd (omega arith)
eight P each (a ∷ b ∷ []) is = absurd (omega arith)
eight P each (a ∷ b ∷ c ∷ []) is = absurd (omega arith)
eight P each (a ∷ b ∷ c ∷ d ∷ []) is = absurd (omega arith)
eight P each (a ∷ b ∷ c ∷ d ∷ e ∷ []) is = absurd (omega arith)
eight P each (a ∷ b ∷ c ∷ d ∷ e ∷ f ∷ []) is = absurd (omega arith)
eight P each (a ∷ b ∷ c ∷ d ∷ e ∷ f ∷ g ∷ []) is = absurd (omega arith)
eight P each (a ∷ b ∷ c ∷ d ∷ e ∷ f ∷ g ∷ h ∷ []) is = each a b c d e f g h
eight P each (a ∷ b ∷ c ∷ d ∷ e ∷ f ∷ g ∷ h ∷ i ∷ more) is = absurd (omega arith)

-- ---- byte by byte

turned : (x n : ℕ) → x + 256 * n ≡ n * 2 ^ 8 + x
turned x n = omega arith

module _ (op : ℕ → ℕ → ℕ) (empty : op 0 0 ≡ 0) (block : (a b r s : ℕ) → r < 2 ^ 8 → s < 2 ^ 8 → op (a * 2 ^ 8 + r) (b * 2 ^ 8 + s) ≡ op a b * 2 ^ 8 + op r s) where
  pub both_lanes : {A : Type 0} (f g : A → ℕ) (xs : List A) → Each1 (λ b. (f b < 256) × (g b < 256)) xs →
      op (number_l 256 (map f xs)) (number_l 256 (map g xs)) ≡ number_l 256 (map (λ b. op (f b) (g b)) xs)
  both_lanes f g [] each = empty
  both_lanes f g (x ∷ xs) each =
      (λ i. op (turned (f x) (number_l 256 (map f xs)) i) (turned (g x) (number_l 256 (map g xs)) i))
      ∙ block (number_l 256 (map f xs)) (number_l 256 (map g xs)) (f x) (g x) each.0.0 each.0.1
      ∙ ap (λ n. n * 2 ^ 8 + op (f x) (g x)) (both_lanes f g xs each.1)
      ∙ sym (turned (op (f x) (g x)) (number_l 256 (map (λ b. op (f b) (g b)) xs)))

pub sum_lanes : {A : Type 0} (f g : A → ℕ) (xs : List A) → number_l 256 (map f xs) + number_l 256 (map g xs) ≡ number_l 256 (map (λ b. f b + g b) xs)
sum_lanes f g [] = refl
sum_lanes f g (x ∷ xs) = omega (arith, sum_lanes f g xs)

pub and_lanes : {A : Type 0} (f g : A → ℕ) (xs : List A) → Each1 (λ b. (f b < 256) × (g b < 256)) xs → bit_and (number_l 256 (map f xs)) (number_l 256 (map g xs)) ≡ number_l 256 (map (λ b. bit_and (f b) (g b)) xs)
and_lanes f g xs each = both_lanes bit_and refl (and_block 8) f g xs each

pub or_lanes : {A : Type 0} (f g : A → ℕ) (xs : List A) → Each1 (λ b. (f b < 256) × (g b < 256)) xs → bit_or (number_l 256 (map f xs)) (number_l 256 (map g xs)) ≡ number_l 256 (map (λ b. bit_or (f b) (g b)) xs)
or_lanes f g xs each = both_lanes bit_or refl (or_block 8) f g xs each

pub xor_lanes : {A : Type 0} (f g : A → ℕ) (xs : List A) → Each1 (λ b. (f b < 256) × (g b < 256)) xs → bit_xor (number_l 256 (map f xs)) (number_l 256 (map g xs)) ≡ number_l 256 (map (λ b. bit_xor (f b) (g b)) xs)
xor_lanes f g xs each = both_lanes bit_xor refl (xor_block 8) f g xs each

-- ---- every other lane

lane8 : (r m a b : ℕ) → a < 256 → b < 256 → bit_and (a + 256 * b + 65536 * r) (255 + 65536 * m) ≡ a + 65536 * bit_and r m
lane8 r m a b A B =
    let x : a + 256 * b + 65536 * r ≡ r * 2 ^ 16 + (a + 256 * b) = omega arith in
    let y : 255 + 65536 * m ≡ m * 2 ^ 16 + 255 = omega arith in
    let low : bit_and (a + 256 * b) 255 ≡ a = and_mask (a + 256 * b) 8 ∙ omega arith in
    (λ i. bit_and (x i) (y i)) ∙ and_block 16 r m (a + 256 * b) 255 (omega arith) (omega arith) ∙ omega (arith, low)

lane16 : (r m a b : ℕ) → a < 65536 → b < 65536 → bit_and (a + 65536 * b + 4294967296 * r) (65535 + 4294967296 * m) ≡ a + 4294967296 * bit_and r m
lane16 r m a b A B =
    let x : a + 65536 * b + 4294967296 * r ≡ r * 2 ^ 32 + (a + 65536 * b) = omega arith in
    let y : 65535 + 4294967296 * m ≡ m * 2 ^ 32 + 65535 = omega arith in
    let low : bit_and (a + 65536 * b) 65535 ≡ a = and_mask (a + 65536 * b) 16 ∙ omega arith in
    (λ i. bit_and (x i) (y i)) ∙ and_block 32 r m (a + 65536 * b) 65535 (omega arith) (omega arith) ∙ omega (arith, low)

pub first_bytes : (a b c d e f g h : ℕ) → a < 256 → b < 256 → c < 256 → d < 256 → e < 256 → f < 256 → g < 256 → h < 256 →
    bit_and (number_l 256 (a ∷ b ∷ c ∷ d ∷ e ∷ f ∷ g ∷ h ∷ [])) 0x00FF00FF00FF00FF ≡ number_l 65536 (a ∷ c ∷ e ∷ g ∷ [])
first_bytes a b c d e f g h A B C D E F G H =
    let w : number_l 256 (a ∷ b ∷ c ∷ d ∷ e ∷ f ∷ g ∷ h ∷ []) ≡ a + 256 * b + 65536 * (c + 256 * d + 65536 * (e + 256 * f + 65536 * (g + 256 * h + 65536 * 0))) = omega arith in
    let t3 : bit_and (g + 256 * h + 65536 * 0) 0xFF ≡ g + 65536 * 0 = lane8 0 0 g h G H in
    let t2 : bit_and (e + 256 * f + 65536 * (g + 256 * h + 65536 * 0)) 0xFF00FF ≡ e + 65536 * (g + 65536 * 0) = lane8 (g + 256 * h + 65536 * 0) 0xFF e f E F ∙ ap (λ n. e + 65536 * n) t3 in
    let t1 : bit_and (c + 256 * d + 65536 * (e + 256 * f + 65536 * (g + 256 * h + 65536 * 0))) 0xFF00FF00FF ≡ c + 65536 * (e + 65536 * (g + 65536 * 0)) =
    lane8 (e + 256 * f + 65536 * (g + 256 * h + 65536 * 0)) 0xFF00FF c d C D ∙ ap (λ n. c + 65536 * n) t2 in
    ap (λ n. bit_and n 0x00FF00FF00FF00FF) w
    ∙ lane8 (c + 256 * d + 65536 * (e + 256 * f + 65536 * (g + 256 * h + 65536 * 0))) 0xFF00FF00FF a b A B
    ∙ ap (λ n. a + 65536 * n) t1

pub first_pairs : (a b c d : ℕ) → a < 65536 → b < 65536 → c < 65536 → d < 65536 →
    bit_and (number_l 65536 (a ∷ b ∷ c ∷ d ∷ [])) 0x0000FFFF0000FFFF ≡ number_l 4294967296 (a ∷ c ∷ [])
first_pairs a b c d A B C D =
    let w : number_l 65536 (a ∷ b ∷ c ∷ d ∷ []) ≡ a + 65536 * b + 4294967296 * (c + 65536 * d + 4294967296 * 0) = omega arith in
    let t1 : bit_and (c + 65536 * d + 4294967296 * 0) 0xFFFF ≡ c + 4294967296 * 0 = lane16 0 0 c d C D in
    ap (λ n. bit_and n 0x0000FFFF0000FFFF) w ∙ lane16 (c + 65536 * d + 4294967296 * 0) 0xFFFF a b A B ∙ ap (λ n. a + 4294967296 * n) t1
