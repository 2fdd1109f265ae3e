use Rattle.db_pages.proofs.Pages.{leaf-holds}
use Rattle.db_pages.proofs.laws.leaf_reads_back.Goals as goal

pub returns : goal.returns
returns c = leaf-holds
