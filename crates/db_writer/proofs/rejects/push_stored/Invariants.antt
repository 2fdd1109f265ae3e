use Rattle.std.proofs.Common.{◌≡◌, map, take, All}
use Rattle.db_records.specs.Record.{IsWritable, record_bytes}
use Rattle.db_writer.specs.Rejects.{reject_row}
use Rattle.db_writer.specs.Written.{with_records}
use Rattle.db_writer.proofs.rejects.push_stored.Given as goal

abbrev pub invariant-loop-index : goal.invariant-loop-index
invariant-loop-index l = record {
  rows : l.writer ≡ with_records l.fn.writer (map record_bytes (map reject_row (take l.index l.book.stored)));
  counted : All (All IsWritable) (map reject_row (take l.index l.book.stored));
}
