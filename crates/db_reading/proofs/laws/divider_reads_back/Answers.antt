use Rattle.db_reading.proofs.Inner.{divider-reads}
use Rattle.db_reading.proofs.laws.divider_reads_back.Goals as goal

pub returns : goal.returns
returns c = divider-reads
