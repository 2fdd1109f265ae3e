use Rattle.std.proofs.Common.{◌≡◌, ◌≤◌, length, take, max, vec_capacity}
use Rattle.std.specs.List.{fold}
use Rattle.value_types.specs.Views.{view_cells}
use Rattle.column_taps.specs.Seen.{by_column}
use Rattle.column_taps.proofs.columns.add_columns.Given as goal

abbrev pub invariant-loop-place : goal.invariant-loop-place
invariant-loop-place g l =
    record {
      items : l.known.items ≡ by_column (λ k column. fold g.K.Known.with k (take l.rows (view_cells column))) l.fn.known.items (take l.place l.columns);
      count : length l.known.items ≡ max (length l.fn.known.items) l.place;
      room : max (length l.fn.known.items) (length l.columns) ≤ vec_capacity l.known;
    }
