use Rattle.std.proofs.Common.{◌≡◌, ◌+◌, take}
use Rattle.db_pages.specs.Grown.{filled}
use Rattle.db_pages.proofs.Rows.{bytes_of}
use Rattle.db_pages.proofs.schema_table.list_tree.Given as goal

-- the rows so far are laid out
abbrev pub invariant-loop-row : goal.invariant-loop-row
invariant-loop-row l = record {
  rowid : l.rowid ≡ 1 + l.row-index;
  leaves : l.leaves ≡ filled l.base 1 (bytes_of (take l.row-index l.rows));
}
