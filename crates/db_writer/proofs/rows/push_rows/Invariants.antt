use Rattle.std.proofs.Common.{◌≡◌, ◌≤◌, ◌++◌, drop}
use Rattle.std.specs.Prelude.{slice_range}
use Rattle.column_store.specs.Stacked.{rows_in}
use Rattle.db_writer.specs.Written.{no_values, records_of, with_records}
use Rattle.db_writer.proofs.rows.push_rows.Given as goal

-- with the rows of the chunks that are left they are all
abbrev pub invariant-loop-chunk : goal.invariant-loop-chunk
invariant-loop-chunk l = record {
  ordered : l.low ≤ l.high;
  none : l.writer.values ≡ no_values;
  rows : with_records l.writer (records_of (slice_range (rows_in (drop l.chunk-index l.earlier) ++ l.last.rows) l.low l.high))
      ≡ with_records l.fn.writer (records_of (slice_range l.table.rows l.fn.from l.fn.to));
}
