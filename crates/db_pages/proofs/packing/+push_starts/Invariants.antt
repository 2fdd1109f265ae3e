use Rattle.std.proofs.Common.{length}
use Rattle.db_pages.proofs.packing.+push_starts.Given as goal

abbrev pub decreases-push_starts : goal.decreases-push_starts
decreases-push_starts l = length l.sizes.now
