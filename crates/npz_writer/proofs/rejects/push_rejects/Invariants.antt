use Rattle.std.proofs.Common.{◌≡◌, ◌++◌, drop}
use Rattle.npz_writer.specs.RejectSheets.{error_rows}
use Rattle.npz_writer.proofs.rejects.push_rejects.Given as goal

-- the rows so far, and those of the files that are left
abbrev pub invariant-loop-file : goal.invariant-loop-file
invariant-loop-file l = record {
  types : l.table.types ≡ l.fn.table.types;
  rows : l.table.rows ++ error_rows (drop l.file-index l.files) ≡ l.fn.table.rows ++ error_rows l.files;
}
