use Rattle.std.proofs.Common.{◌≡◌, map, take, All}
use Rattle.db_records.specs.Record.{IsWritable, record_bytes}
use Rattle.db_writer.specs.Rejects.{reject_rows}
use Rattle.db_writer.specs.Written.{with_records}
use Rattle.db_writer.proofs.rejects.push_rejects.Given as goal

abbrev pub invariant-loop-file : goal.invariant-loop-file
invariant-loop-file l = record {
  rows : l.writer ≡ with_records l.fn.writer (map record_bytes (reject_rows (take l.file-index l.files)));
  counted : All (All IsWritable) (reject_rows (take l.file-index l.files));
}
