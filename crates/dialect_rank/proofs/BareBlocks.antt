-- Bytes without line ends and quotes, block by block.
use Rattle.std.proofs.Common.{◌≡◌, ℕ, ◌+◌, ◌-◌, ◌<◌, ◌≤◌, Bool, false, cond, not, List, ◌++◌, drop, take, length, get_or, refl, sym, ◌∙◌, ap, inl, inr, arith}
use Rattle.std.specs.Prelude.{◌==◌, ◌||◌, Option, Some, None, count_by, unwrap_or}
use Rattle.std.specs.List.{prefix_len}
use Rattle.std.proofs.Math.Seq.{take-add}
use Rattle.std.proofs.lemmas.Bool.{cases_lt, eq-eqb, ne_eqb, not-true, or_parts, true≢false}
use Rattle.std.proofs.lemmas.List.{get_or-take, length-take, take-take}
use Rattle.std.proofs.lemmas.List.Sums.{prefix_len_passes, sum_by-append}
use Rattle.std.proofs.lemmas.Simd.{get_or-chunk}
use lib.Lanes.{chunk}
use Rattle.byte_classes.specs.Dialect.{Marks, is_byte}
use Rattle.byte_classes.specs.Special.{is_one_of}
use Rattle.dialect_rank.proofs.BareRows.{AllBare, IsBare}

-- ---- what a byte isn't

no_quote : (o : Option ℕ) (q b : ℕ) → unwrap_or o 10 ≡ q → (b == q) ≡ false → is_byte o b ≡ false
no_quote None q b is other = refl
no_quote (Some a) q b is other = ne_eqb a b (λ e. let same : b ≡ q = sym e ∙ is in true≢false (sym (eq-eqb b q same) ∙ other))

bare_byte : (d : Marks) (q b : ℕ) → unwrap_or d.quote 10 ≡ q → is_one_of 10 13 q b ≡ false → IsBare d b
bare_byte d q b is other =
    let parts = or_parts (b == 10 || b == 13) (b == q) other in
    record { line = parts.0; quote = no_quote d.quote q b is parts.1 }

pub all_bare : (d : Marks) (bytes : List ℕ) (end q : ℕ) → unwrap_or d.quote 10 ≡ q → end ≤ length bytes → ((k : ℕ) → k < end → is_one_of 10 13 q (get_or bytes k 0) ≡ false) → AllBare d (take end bytes)
all_bare d bytes end q is within none k lt =
    let below : k < end = omega (arith, lt, length-take end bytes, within) in
    bare_byte d q (get_or (take end bytes) k 0) is (ap (is_one_of 10 13 q) (get_or-take end bytes k 0 below) ∙ none k below)

-- ---- one block more

-- the run at the front of a block goes on from the bytes before it
pub bare_on : (bytes lanes : List ℕ) (at q run : ℕ) → lanes ≡ chunk at 64 bytes → run ≡ prefix_len (λ b. not (is_one_of 10 13 q b)) lanes → run ≤ 64 →
    ((k : ℕ) → k < at → is_one_of 10 13 q (get_or bytes k 0) ≡ false) → (k : ℕ) → k < at + run → is_one_of 10 13 q (get_or bytes k 0) ≡ false
bare_on bytes lanes at q run is counts few before k lt = elim (cases_lt k at) [
  | inl first ↦ before k first
  | inr later ↦
      let j : ℕ = k - at in
      let below : j < run = omega (arith, lt, later) in
      let place : at + j ≡ k = omega (arith, later) in
      let here : get_or lanes j 0 ≡ get_or bytes k 0 = ap (λ l. get_or l j 0) is ∙ get_or-chunk at 64 bytes j 0 (omega (arith, below, few)) ∙ ap (λ n. get_or bytes n 0) place in
      ap (is_one_of 10 13 q) (sym here) ∙ not-true _ (prefix_len_passes (λ b. not (is_one_of 10 13 q b)) lanes j 0 (omega (arith, below, counts)))
]

pub counted_on : (test : ℕ → Bool) (bytes lanes : List ℕ) (at run : ℕ) → lanes ≡ chunk at 64 bytes → run ≤ 64 →
    count_by test (take at bytes) + count_by test (take run lanes) ≡ count_by test (take (at + run) bytes)
counted_on test bytes lanes at run is few =
    sym (ap (count_by test) (take-add at run bytes ∙ ap (λ v. take at bytes ++ v) (sym (take-take run 64 (drop at bytes) few) ∙ ap (take run) (sym is)))
    ∙ sum_by-append (λ b. cond {A = ℕ} (test b) 1 0) (take at bytes) (take run lanes))
