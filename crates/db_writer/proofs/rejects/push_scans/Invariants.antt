use Rattle.std.proofs.Common.{◌≡◌, map, drop, All}
use Rattle.db_records.specs.Record.{IsWritable, record_bytes}
use Rattle.db_writer.specs.Rejects.{scan_rows}
use Rattle.db_writer.specs.Written.{no_values, with_records}
use Rattle.db_writer.proofs.rejects.push_scans.Given as goal

-- with the scans of the files that are left they are all
abbrev pub invariant-loop-index : goal.invariant-loop-index
invariant-loop-index l = record {
  none : l.writer.values ≡ no_values;
  rows : with_records l.writer (map record_bytes (scan_rows l.sniffed l.index (drop l.index l.files)))
      ≡ with_records l.fn.writer (map record_bytes (scan_rows l.sniffed 0 l.files));
  counted : All (All IsWritable) (scan_rows l.sniffed l.index (drop l.index l.files)) → All (All IsWritable) (scan_rows l.sniffed 0 l.files);
}
