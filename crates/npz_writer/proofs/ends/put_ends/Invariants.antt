use Rattle.std.proofs.Common.{◌≡◌, ◌-◌, ◌*◌, ◌%◌, ◌^◌, pos, take}
use Rattle.std.specs.Prelude.{flat_map, slice_range}
use Rattle.value_types.specs.Views.{view_cells}
use Rattle.npz_writer.specs.Arrays.{ends_from, number_bytes}
use Rattle.npz_writer.specs.Blocks.{end_of}
use Rattle.npz_writer.proofs.ends.put_ends.Given as goal

-- the rows so far are stored, and the last text ends there
abbrev pub invariant-loop-row : goal.invariant-loop-row
invariant-loop-row l = record {
  ends : take (8 * (l.row - l.from)) l.block ≡ flat_map (λ end. number_bytes (pos end)) (ends_from l.begin (slice_range (view_cells l.view) l.from l.row));
  last : l.end ≡ end_of l.begin (slice_range (view_cells l.view) l.from l.row) % 2 ^ 64;
}
