-- What holds of the claim word and all drawers, at every moment.
use Rattle.std.specs.Prelude.{◌≡◌, ℕ, ◌+◌, ◌<◌, ◌≤◌, true, false, ◌||◌, eqb, ltb, cond, min, List, [], length, slice_index}
use Rattle.std.specs.List.{All, sum_by}
use mathlib.Core.Option.{some}
use lib.ListN.{get_elem?}
use Rattle.atomic_table.specs.Table.{State}
use Rattle.claim_board.specs.declared.rule.DrawerView.{DrawerView}

-- how often x stands in the list
abbrev pub times : ℕ → List ℕ → ℕ
times x xs = sum_by (λ y. cond (eqb y x) 1 0) xs

-- 1 where x is below n, else 0
abbrev pub once_below : ℕ → ℕ → ℕ
once_below x n = cond (ltb x n) 1 0

-- 1 for a drawer that is done or has ended
abbrev pub finished : DrawerView → ℕ
finished v = cond (v.done || v.ended) 1 0

-- what a drawer knows is so: one that has ended has nothing, and one that is done knows that the word has reached the count
pub record Fits (count word : ℕ) (v : DrawerView) : Type 0 where
  pub ended : v.ended ≡ true → (v.drawn ≡ []) × (v.splits ≡ 0)
  pub done : v.done ≡ true → count ≤ word
  pub drawn : All (λ x. (x < word) × (x < count)) v.drawn
  pub same : v.ended ≡ false → v.count ≡ count

-- at most 64 drawers are ever made, the word passes the count by at most one a drawer, and each number below both stands in exactly one view, there once
pub record Kept (count word : ℕ) (views : List DrawerView) : Type 0 where
  pub most : count ≤ 4294967296
  pub budget : length views + sum_by (λ v. v.splits) views ≤ 64
  pub reached : word ≤ count + sum_by finished views
  pub once : (x : ℕ) → sum_by (λ v. times x v.drawn) views ≡ once_below x (min word count)
  pub each : (id : ℕ) (v : DrawerView) → get_elem? views id ≡ some v → Fits count word v

-- the same of a table of one word
abbrev pub IsKept : ℕ → State (Unit {0}) DrawerView → Type 0
IsKept count s = (length s.words ≡ 1) × Kept count (slice_index s.words 0) s.views
