use Rattle.std.proofs.Common.{◌≡◌, ◌<◌, ◌++◌, [], length, drop}
use Rattle.std.specs.Prelude.{slice_index_or}
use Rattle.column_store.specs.Stacked.{rows_in}
use Rattle.csv_writer.proofs.straight_rows.chunk_with.Given as goal

-- the row is one of the chunks that are left
abbrev pub invariant-loop-chunk : goal.invariant-loop-chunk
invariant-loop-chunk l = record {
  within : l.place < length (rows_in (drop l.chunk-index l.earlier) ++ l.last.rows);
  same : slice_index_or (rows_in (drop l.chunk-index l.earlier) ++ l.last.rows) l.place [] ≡ slice_index_or l.table.rows l.fn.row [];
}
