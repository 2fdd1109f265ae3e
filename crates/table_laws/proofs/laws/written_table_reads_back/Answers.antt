use Rattle.table_laws.proofs.WrittenReading.{written_table_reads_back}
use Rattle.table_laws.proofs.laws.written_table_reads_back.Goals as goal

pub returns : goal.returns
returns c = written_table_reads_back
