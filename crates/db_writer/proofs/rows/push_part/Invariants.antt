use Rattle.std.proofs.Common.{◌≡◌}
use Rattle.std.specs.Prelude.{slice_range}
use Rattle.db_writer.specs.Written.{records_of, with_records}
use Rattle.db_writer.proofs.rows.push_part.Given as goal

abbrev pub invariant-loop-row : goal.invariant-loop-row
invariant-loop-row l = l.writer ≡ with_records l.fn.writer (records_of (slice_range l.chunk.rows l.first l.row))
