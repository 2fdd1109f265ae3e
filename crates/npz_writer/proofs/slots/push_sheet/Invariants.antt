use Rattle.std.proofs.Common.{◌≡◌, ◌++◌}
use Rattle.std.specs.Prelude.{flat_map}
use Rattle.std.specs.List.{range_with_len}
use Rattle.npz_writer.specs.Slots.{column_slots, sheet_at}
use Rattle.npz_writer.proofs.slots.push_sheet.Given as goal

-- the arrays of the columns so far are appended
abbrev pub invariant-loop-column : goal.invariant-loop-column
invariant-loop-column l = l.slots.items ≡ l.fn.slots.items ++ flat_map (column_slots l.sheet (sheet_at l.sheets l.sheet)) (range_with_len 0 l.column)
