use Rattle.std.proofs.Common.{◌≡◌, ℕ, length}
use Rattle.std.specs.Prelude.{All, slice_range}
use Rattle.db_pages.specs.Grown.{grown}
use Rattle.db_writer.specs.Groups.{AreBlocks, HoldsRows}
use Rattle.db_writer.specs.Written.{records_of}
use Rattle.db_writer.proofs.groups.push_groups.Given as goal

-- the rows before a place are appended, and the groups that are left have those behind it
abbrev pub invariant-loop-group : goal.invariant-loop-group
invariant-loop-group l = record {
  holds : All (HoldsRows l.table.rows) l.group-iterator.rest.items;
  so_far : (at : ℕ) × AreBlocks at l.group-iterator.rest.items (length l.table.rows) × (l.pages ≡ grown l.fn.pages.base 1 (records_of (slice_range l.table.rows 0 at)));
}
