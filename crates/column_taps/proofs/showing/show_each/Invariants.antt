use Rattle.std.proofs.Common.{◌≡◌, ◌-◌, length, take}
use Rattle.value_types.specs.Views.{view_rows}
use Rattle.column_taps.specs.Shown.{shown_rows, HasRoomForRows}
use Rattle.column_taps.proofs.showing.show_each.Given as goal

-- the rows so far went, and there is room for the others
abbrev pub invariant-loop-row : goal.invariant-loop-row
invariant-loop-row g l =
    record {
      went : (l.row, (goal.RowTap-dyn g (l.tap.vtable, l.tap.value)).seen l.tap.value) ≡ shown_rows ((goal.RowTap-dyn g (l.fn.tap.vtable, l.fn.tap.value)).seen l.fn.tap.value) (take l.row (view_rows l.columns l.rows));
      room : HasRoomForRows (l.rows - l.row) (length l.columns) ((goal.RowTap-dyn g (l.tap.vtable, l.tap.value)).seen l.tap.value);
    }
