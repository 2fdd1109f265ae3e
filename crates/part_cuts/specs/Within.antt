-- What readings keep to.
use Rattle.std.specs.Prelude.{ℕ, ◌≤◌, ◌^◌, List, [], ◌∷◌}
use Rattle.part_cuts.specs.declared.cut_rule.CutRule.{CutRule}
use Rattle.part_cuts.specs.declared.tally.Tally.{Tally}

-- the most bytes of a file, and of a size
abbrev pub most_bytes : ℕ
most_bytes = 2 ^ 62

abbrev pub most_size : ℕ
most_size = 2 ^ 32

-- a size by which a file is cut
pub record IsCutRule (rule : CutRule) : Type 0 where
  pub some : 1 ≤ rule.size
  pub most : rule.size ≤ most_size

-- each line end and each row has a byte of its own
pub record IsTally (t : Tally) : Type 0 where
  pub bytes : t.bytes ≤ most_bytes
  pub lines : t.lines ≤ t.bytes
  pub rows : t.rows ≤ t.bytes

-- a place, and one at or behind it
pub record IsBefore (t u : Tally) : Type 0 where
  pub bytes : t.bytes ≤ u.bytes
  pub lines : t.lines ≤ u.lines
  pub rows : t.rows ≤ u.rows

-- places in their order, and the end at or behind the last one
abbrev pub Ascends : List Tally → Tally → Type 0
Ascends [] end = Unit {0}
Ascends (t ∷ []) end = IsBefore t end
Ascends (t ∷ u ∷ starts) end = IsBefore t u × Ascends (u ∷ starts) end
