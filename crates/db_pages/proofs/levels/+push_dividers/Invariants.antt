use Rattle.std.proofs.Common.{length}
use Rattle.db_pages.proofs.levels.+push_dividers.Given as goal

abbrev pub decreases-push_dividers : goal.decreases-push_dividers
decreases-push_dividers l = length l.rest.now
