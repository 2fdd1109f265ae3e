use Rattle.std.proofs.Common.{◌≡◌, ◌*◌, ◌≤◌, take}
use Rattle.std.specs.Prelude.{count_by, sum_by}
use Rattle.value_types.specs.Views.{view_cells}
use Rattle.column_taps.specs.Seen.{is_filled}
use Rattle.column_taps.proofs.count.marks.filled_in.Given as goal

abbrev pub invariant-loop-column : goal.invariant-loop-column
invariant-loop-column l =
    record {
      total : l.cells ≡ sum_by (λ column. count_by is_filled (take l.rows (view_cells column))) (take l.column-index l.columns);
      few : l.cells ≤ l.rows * l.column-index;
    }
