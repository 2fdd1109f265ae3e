use Rattle.std.proofs.Common.{◌≡◌, ◌-◌, false, map, take}
use Rattle.std.specs.Prelude.{slice_range}
use Rattle.npz_writer.specs.Arrays.{truth_byte}
use Rattle.npz_writer.specs.Blocks.{unmarked}
use Rattle.npz_writer.proofs.truths.put_truths.Given as goal

-- the rows so far are put
abbrev pub invariant-loop-row : goal.invariant-loop-row
invariant-loop-row l = take (l.row - l.from) l.block ≡ map truth_byte (slice_range (unmarked false l.nulls l.truths) l.from l.row)
