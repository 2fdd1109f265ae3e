use Rattle.std.proofs.Common.{length}
use Rattle.db_pages.proofs.levels.+last_child.Given as goal

abbrev pub decreases-last_child : goal.decreases-last_child
decreases-last_child l = length l.children.now
