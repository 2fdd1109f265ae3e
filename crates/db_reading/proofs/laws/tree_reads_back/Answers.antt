use Rattle.db_reading.proofs.Trees.{tree-reads-back}
use Rattle.db_reading.proofs.laws.tree_reads_back.Goals as goal

pub returns : goal.returns
returns c = tree-reads-back
