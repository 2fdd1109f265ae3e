use Rattle.std.proofs.Common.{◌≡◌, ◌++◌, drop}
use Rattle.npz_writer.specs.RejectSheets.{scan_rows}
use Rattle.npz_writer.proofs.scans.push_scans.Given as goal

-- the rows so far, and those of the files that are left
abbrev pub invariant-loop-index : goal.invariant-loop-index
invariant-loop-index l = record {
  types : l.table.types ≡ l.fn.table.types;
  rows : l.table.rows ++ scan_rows l.sniffed l.index (drop l.index l.files) ≡ l.fn.table.rows ++ scan_rows l.sniffed 0 l.files;
}
