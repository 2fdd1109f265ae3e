use Rattle.std.proofs.Common.{take}
use Rattle.column_store.specs.RowsOfColumns.{HasNoTexts}
use Rattle.range_scan.proofs.fast_rows.kinds.has_no_texts.Given as goal

abbrev pub invariant-loop-column : goal.invariant-loop-column
invariant-loop-column l = HasNoTexts (take l.column l.types)
