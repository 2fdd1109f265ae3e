use Rattle.std.proofs.Common.{◌≡◌, ◌||◌, ℕ, Bool, ◌<◌, ◌≤◌, get_or}
use Rattle.row_fields.specs.Split.{fields_in}
use Rattle.csv_sniffer.specs.ZeroColumns.{has_zero_at}
use Rattle.csv_sniffer.proofs.zero_columns.mark_columns.Given as goal

-- the columns so far are marked, the others are as they were
abbrev pub invariant-loop-column : goal.invariant-loop-column
invariant-loop-column l = record {
  below : (k : ℕ) (other : Bool) → k < l.column →
      get_or l.flags k other ≡ (has_zero_at l.columns.options.now l.columns.types.now (fields_in l.row l.fields) k || get_or l.fn.flags k other);
  above : (k : ℕ) (other : Bool) → l.column ≤ k → get_or l.flags k other ≡ get_or l.fn.flags k other;
}
