use Rattle.std.proofs.Common.{◌≡◌, ◌++◌, ◌<◌, length}
use Rattle.db_pages.specs.Levels.{level_children, level_pages}
use Rattle.db_pages.proofs.Grouping.{groups_of}
use Rattle.db_pages.proofs.levels.push_level.Given as goal

-- what is left is the rest of the level
abbrev pub invariant-loop-rest : goal.invariant-loop-rest
invariant-loop-rest l = record {
  some : 0 < length l.rest;
  pages : l.fn.into.items ++ level_pages (groups_of l.fn.children) ≡ l.into.items ++ level_pages (groups_of l.rest);
  level : l.fn.level.items ++ level_children l.fn.first (groups_of l.fn.children) ≡ l.level.items ++ level_children l.place (groups_of l.rest);
}

abbrev pub decreases-loop-rest : goal.decreases-loop-rest
decreases-loop-rest l = length l.rest
