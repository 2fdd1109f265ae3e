use Rattle.table_laws.proofs.WrittenTables.{table_text, table_written}
use Rattle.table_laws.proofs.laws.written_table_is_written.Goals as goal

pub returns : goal.returns
returns c names types rows h = (table_written names types rows h, table_text names rows)
