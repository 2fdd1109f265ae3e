use Rattle.std.proofs.Common.{◌≡◌, ◌++◌, map, drop}
use Rattle.npz_writer.specs.RejectSheets.{reject_cells}
use Rattle.npz_writer.proofs.rejects.push_stored.Given as goal

-- the rows so far, and those of the rejects that are left
abbrev pub invariant-loop-index : goal.invariant-loop-index
invariant-loop-index l = record {
  types : l.table.types ≡ l.fn.table.types;
  rows : l.table.rows ++ map reject_cells (drop l.index l.book.stored) ≡ l.fn.table.rows ++ map reject_cells l.book.stored;
}
