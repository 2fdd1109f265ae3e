use Rattle.std.proofs.Common.{◌≡◌, ℕ, ◌<◌, ◌≤◌, [], get_or}
use Rattle.std.specs.List.{cons_option}
use Rattle.row_fields.specs.Split.{fields_in}
use Rattle.csv_sniffer.specs.Columns.{with_entries}
use Rattle.csv_sniffer.specs.Entries.{entry_in}
use Rattle.csv_sniffer.specs.declared.explaining.entries.ColumnSample.{ColumnSample}
use Rattle.csv_sniffer.proofs.explaining.gathering.push_values.Given as goal

-- the columns so far have the row's value, the others are as they were
abbrev pub invariant-loop-column : goal.invariant-loop-column
invariant-loop-column l = record {
  below : (k : ℕ) (other : ColumnSample) → k < l.column →
      get_or l.samples k other ≡ with_entries (get_or l.fn.samples k other) (cons_option (entry_in l.options l.row.line (fields_in l.row.bytes.now l.row.fields.now) k) []);
  above : (k : ℕ) (other : ColumnSample) → l.column ≤ k → get_or l.samples k other ≡ get_or l.fn.samples k other;
}
