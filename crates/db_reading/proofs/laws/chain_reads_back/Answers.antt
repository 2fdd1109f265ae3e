use Rattle.db_reading.proofs.Overflow.{chain-reads}
use Rattle.db_reading.proofs.laws.chain_reads_back.Goals as goal

pub returns : goal.returns
returns c = chain-reads
