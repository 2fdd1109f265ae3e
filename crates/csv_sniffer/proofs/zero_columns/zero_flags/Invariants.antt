use Rattle.std.proofs.Common.{◌≡◌, ◌≤◌, drop, take, length}
use Rattle.csv_sniffer.specs.Rows.{row_texts}
use Rattle.csv_sniffer.specs.ZeroColumns.{zero_flags}
use Rattle.csv_sniffer.specs.declared.zero_columns.TheConstants.{ZERO_ROWS}
use Rattle.csv_sniffer.proofs.zero_columns.zero_flags.Given as goal

-- what the rows from the last one down to the place mark
abbrev pub invariant-loop-row : goal.invariant-loop-row
invariant-loop-row l = record {
  low : l.first ≤ l.row;
  high : l.row ≤ length l.rows.spans;
  few : l.row ≤ ZERO_ROWS;
  flags : l.flags.items ≡ zero_flags l.columns.options.now l.rows.dialect l.columns.types.now (drop l.row (take ZERO_ROWS (row_texts l.rows.sample.now l.rows.spans)));
}
