-- The bits of masks as tests.
use Rattle.std.proofs.Common.{◌≡◌, ℕ, zero, suc, ◌+◌, ◌-◌, ◌*◌, ◌/◌, ◌%◌, ◌^◌, ◌<◌, Bool, true, false, cond, not, ◌&&◌, ◌||◌, max, min, refl, sym, ◌∙◌, ap, ap₂, arith, w64, bit_and}
use Rattle.std.specs.Prelude.{◌==◌}
use Rattle.std.specs.Int.{bit_at, bit_not}
use Rattle.std.proofs.Math.Nat.{div-add-mod}
use Rattle.std.proofs.lemmas.Nat.{or_lt}
use Rattle.std.proofs.lemmas.Nat.Bits.{bit_at_or, bit_at_and, bit_at_not, bit_at-lt, bit_at_lowest, bit_at-suc, bit_at-zero, bit_at_cat_low}
use lib.Bits.{bit_or}
use Rattle.quote_automaton.specs.Counted.{bit_behind, is_misplaced, is_set, toggled}

most : (a b : Bool) → max (cond {A = ℕ} a 1 0) (cond b 1 0) ≡ cond (a || b) 1 0
most true true = refl
most true false = refl
most false true = refl
most false false = refl

least : (a b : Bool) → min (cond {A = ℕ} a 1 0) (cond b 1 0) ≡ cond (a && b) 1 0
least true true = refl
least true false = refl
least false true = refl
least false false = refl

other : (a : Bool) → 1 - cond {A = ℕ} a 1 0 ≡ cond (not a) 1 0
other true = refl
other false = refl

-- the bit of each operation, from those of its masks
pub either_is : (m n i : ℕ) (a b : Bool) → bit_at m i ≡ cond a 1 0 → bit_at n i ≡ cond b 1 0 → bit_at (bit_or m n) i ≡ cond (a || b) 1 0
either_is m n i a b f g = bit_at_or m n i ∙ (ap₂ max f g ∙ most a b)

pub both_is : (m n i : ℕ) (a b : Bool) → bit_at m i ≡ cond a 1 0 → bit_at n i ≡ cond b 1 0 → bit_at (bit_and m n) i ≡ cond (a && b) 1 0
both_is m n i a b f g = bit_at_and m n i ∙ (ap₂ min f g ∙ least a b)

pub neither_is : (m i : ℕ) (a : Bool) → m < 2 ^ 64 → i < 64 → bit_at m i ≡ cond a 1 0 → bit_at (bit_not w64 m) i ≡ cond (not a) 1 0
neither_is m i a small lt f = bit_at_not w64 m i small lt ∙ (ap (λ n. 1 - n) f ∙ other a)

-- a bit that stands for a test is set where the test is passed
pub set_is : (m i : ℕ) (t : Bool) → bit_at m i ≡ cond t 1 0 → is_set m i ≡ t
set_is m i t f = ap (λ (n : ℕ). n == 1) f ∙ by_test t where
  by_test : (b : Bool) → (cond {A = ℕ} b 1 0 == 1) ≡ b
  by_test true = refl
  by_test false = refl

digit : (n : ℕ) → n < 2 → n ≡ cond (n == 1) 1 0
digit zero lt = refl
digit (suc zero) lt = refl
digit (suc (suc n)) lt = absurd (let no : ⊥ = omega (arith, lt) in no)

pub bit_is : (m i : ℕ) → bit_at m i ≡ cond (is_set m i) 1 0
bit_is m i = digit (bit_at m i) (bit_at-lt m i)

-- where a byte outside quotes is out of its place
pub misplaced_is : (inside comments behind_quotes behind_ends quotes ends i : ℕ) → inside < 2 ^ 64 → behind_quotes < 2 ^ 64 → behind_ends < 2 ^ 64 → quotes < 2 ^ 64 → ends < 2 ^ 64 → i < 64 →
    bit_at (bit_and (bit_not w64 inside) (bit_or comments (bit_or (bit_and behind_quotes (bit_not w64 (bit_or ends quotes))) (bit_and quotes (bit_not w64 (bit_or behind_quotes behind_ends)))))) i
    ≡ cond (is_misplaced (is_set inside i) (is_set comments i) (is_set behind_quotes i) (is_set behind_ends i) (is_set quotes i) (is_set ends i)) 1 0
misplaced_is inside comments behind_quotes behind_ends quotes ends i a b c q e lt =
    both_is (bit_not w64 inside) _ i _ _ (neither_is inside i _ a lt (bit_is inside i))
    (either_is comments _ i _ _ (bit_is comments i)
    (either_is _ _ i _ _
    (both_is behind_quotes _ i _ _ (bit_is behind_quotes i) (neither_is (bit_or ends quotes) i _ (or_lt 64 ends quotes e q) lt (either_is ends quotes i _ _ (bit_is ends i) (bit_is quotes i))))
    (both_is quotes _ i _ _ (bit_is quotes i) (neither_is (bit_or behind_quotes behind_ends) i _ (or_lt 64 behind_quotes behind_ends b c) lt (either_is behind_quotes behind_ends i _ _ (bit_is behind_quotes i) (bit_is behind_ends i))))))

-- a mask with each bit one place later
kept : (n i : ℕ) → i < 64 → bit_at (n % 2 ^ 64) i ≡ bit_at n i
kept n i lt =
    let whole : (n / 2 ^ 64) * 2 ^ 64 + n % 2 ^ 64 ≡ n = omega (arith, div-add-mod n (2 ^ 64)) in
    sym (bit_at_cat_low (n / 2 ^ 64) 64 (n % 2 ^ 64) i lt) ∙ ap (λ (k : ℕ). bit_at k i) whole

later : (first : Bool) (m i : ℕ) → max (bit_at (m * 2) i) (bit_at (cond first 1 0) i) ≡ bit_behind first m i
later first m zero =
    let even : m * 2 % 2 ≡ 0 = omega arith in
    ap₂ max (bit_at_lowest (m * 2) ∙ even) (bit_at_lowest (cond first 1 0)) ∙ by_test first where
      by_test : (b : Bool) → max 0 (cond {A = ℕ} b 1 0 % 2) ≡ cond b 1 0
      by_test true = refl
      by_test false = refl
later first m (suc i) =
    let half : m * 2 / 2 ≡ m = omega arith in
    ap₂ max (bit_at-suc (m * 2) i ∙ ap (λ (k : ℕ). bit_at k i) half) (bit_at-suc (cond first 1 0) i ∙ ap (λ (k : ℕ). bit_at k i) (by_test first) ∙ bit_at-zero i) ∙ none (bit_at m i) where
      by_test : (b : Bool) → cond {A = ℕ} b 1 0 / 2 ≡ 0
      by_test true = refl
      by_test false = refl

      none : (n : ℕ) → max n 0 ≡ n
      none n = omega arith

pub behind_is : (first : Bool) (m i : ℕ) → i < 64 → bit_at (bit_or (m * 2 % 2 ^ 64) (cond first 1 0)) i ≡ bit_behind first m i
behind_is first m i lt = bit_at_or (m * 2 % 2 ^ 64) (cond first 1 0) i ∙ (ap (λ (n : ℕ). max n (bit_at (cond first 1 0) i)) (kept (m * 2) i lt) ∙ later first m i)

-- where each bit tells of the one behind it whether the place has a quote
pub odd_is : (t u q : Bool) → (cond {A = ℕ} t 1 0 + cond u 1 0) % 2 ≡ cond q 1 0 → toggled u q ≡ t
odd_is true true true h = absurd (let no : ⊥ = omega (arith, h) in no)
odd_is true true false h = refl
odd_is true false true h = refl
odd_is true false false h = absurd (let no : ⊥ = omega (arith, h) in no)
odd_is false true true h = refl
odd_is false true false h = absurd (let no : ⊥ = omega (arith, h) in no)
odd_is false false true h = absurd (let no : ⊥ = omega (arith, h) in no)
odd_is false false false h = refl
