use Rattle.std.proofs.Common.{◌≡◌, ℕ, take}
use Rattle.std.specs.Prelude.{slice_index}
use Rattle.dialect_rank.specs.Score.{times}
use Rattle.dialect_rank.specs.Shape.{field_counts}
use Rattle.dialect_rank.proofs.most_frequent.frequencies.Given as goal

abbrev pub invariant-loop-row : goal.invariant-loop-row
invariant-loop-row l = (n : ℕ) → slice_index l.counts.items n ≡ times (field_counts (take l.row-index l.rows)) n
