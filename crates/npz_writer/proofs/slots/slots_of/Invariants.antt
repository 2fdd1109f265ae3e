use Rattle.std.proofs.Common.{◌≡◌}
use Rattle.std.specs.Prelude.{flat_map}
use Rattle.std.specs.List.{range_with_len}
use Rattle.npz_writer.specs.Slots.{sheet_slots}
use Rattle.npz_writer.proofs.slots.slots_of.Given as goal

-- the arrays of the sheets so far
abbrev pub invariant-loop-sheet : goal.invariant-loop-sheet
invariant-loop-sheet l = l.slots.items ≡ flat_map (sheet_slots l.sheets) (range_with_len 0 l.sheet)
