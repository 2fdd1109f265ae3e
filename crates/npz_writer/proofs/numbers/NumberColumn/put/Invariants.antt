use Rattle.std.proofs.Common.{◌≡◌, ◌-◌, ◌*◌, take}
use Rattle.std.specs.Prelude.{flat_map, slice_range}
use Rattle.npz_writer.specs.Arrays.{number_bytes}
use Rattle.npz_writer.specs.Blocks.{written_numbers}
use Rattle.npz_writer.proofs.numbers.NumberColumn.put.Given as goal

-- the rows so far are stored
abbrev pub invariant-loop-row : goal.invariant-loop-row
invariant-loop-row l = take (8 * (l.row - l.from)) l.block ≡ flat_map number_bytes (slice_range (written_numbers l.self) l.from l.row)
