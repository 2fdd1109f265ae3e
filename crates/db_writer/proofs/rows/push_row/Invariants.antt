use Rattle.std.proofs.Common.{◌≡◌, [], take}
use Rattle.std.specs.Prelude.{slice_index_or}
use Rattle.db_writer.specs.Stored.{stored_row}
use Rattle.db_writer.specs.Written.{with_values}
use Rattle.db_writer.proofs.rows.push_row.Given as goal

abbrev pub invariant-loop-column : goal.invariant-loop-column
invariant-loop-column l = l.writer ≡ with_values l.fn.writer (stored_row (take l.column (slice_index_or l.chunk.rows l.row [])))
