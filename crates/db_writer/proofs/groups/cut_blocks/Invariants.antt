use Rattle.std.proofs.Common.{◌≡◌, ◌≤◌, ◌%◌, ◌⊎◌, length}
use Rattle.std.specs.Prelude.{All}
use Rattle.db_writer.specs.Groups.{AreBlocks, IsUnwritten}
use Rattle.db_writer.proofs.groups.cut_blocks.Given as goal

abbrev pub invariant-loop-number : goal.invariant-loop-number
invariant-loop-number l = record {
  within : l.from ≤ l.rows;
  all : l.number ≡ l.count → l.from ≡ l.rows;
  block : (l.from % 8192 ≡ 0) ⊎ (l.from ≡ l.rows);
  groups : AreBlocks 0 l.groups.items l.from;
  unwritten : All (IsUnwritten l.rows) l.groups.items;
  count : length l.groups.items ≡ l.number;
}
