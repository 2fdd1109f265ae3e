use Rattle.std.proofs.Common.{◌≡◌, take}
use Rattle.value_types.specs.Views.{view_rows}
use Rattle.column_taps.specs.KeptPairs.{pairs_in}
use Rattle.column_taps.specs.Seen.{told_apart}
use Rattle.column_taps.specs.Shown.{shown_rows}
use Rattle.column_taps.proofs.distinct.DistinctTapRowTap.take_columns.Given as goal

-- the rows so far went
abbrev pub invariant-loop-row : goal.invariant-loop-row
invariant-loop-row l =
    (l.row, told_apart l.self.most (pairs_in l.self.pairs)) ≡ shown_rows (told_apart l.fn.self.most (pairs_in l.fn.self.pairs)) (take l.row (view_rows l.columns l.rows))
