use Rattle.std.proofs.Common.{◌≡◌, ◌-◌, false, map, take}
use Rattle.std.specs.Prelude.{slice_index_or}
use Rattle.std.specs.List.{range_with_len}
use Rattle.npz_writer.specs.Arrays.{truth_byte}
use Rattle.npz_writer.proofs.truths.put_marks.Given as goal

-- the rows so far are put
abbrev pub invariant-loop-row : goal.invariant-loop-row
invariant-loop-row l = take (l.row - l.from) l.block ≡ map (λ row. truth_byte (slice_index_or l.nulls row false)) (range_with_len l.from (l.row - l.from))
