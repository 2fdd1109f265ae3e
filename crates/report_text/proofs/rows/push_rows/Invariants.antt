use Rattle.std.proofs.Common.{◌≡◌, ◌≤◌, ◌++◌, drop}
use Rattle.std.specs.Prelude.{flat_map, slice_range}
use Rattle.column_store.specs.Stacked.{rows_in}
use Rattle.report_text.specs.Lines.{row_line}
use Rattle.report_text.proofs.rows.push_rows.Given as goal

-- with the rows of the chunks that are left the text is that of all
abbrev pub invariant-loop-chunk : goal.invariant-loop-chunk
invariant-loop-chunk l = record {
  ordered : l.low ≤ l.high;
  text : l.into.text ++ flat_map row_line (slice_range (rows_in (drop l.chunk-index l.earlier) ++ l.last.rows) l.low l.high)
      ≡ l.fn.into.text ++ flat_map row_line (slice_range l.table.rows l.fn.from l.fn.to);
}
