use Rattle.db_reading.proofs.Inner.{page-reads}
use Rattle.db_reading.proofs.laws.page_reads_back.Goals as goal

pub returns : goal.returns
returns c = page-reads
