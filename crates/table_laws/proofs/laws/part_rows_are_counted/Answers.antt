use Rattle.table_laws.proofs.PartRows.{part_rows_are_counted}
use Rattle.table_laws.proofs.laws.part_rows_are_counted.Goals as goal

pub returns : goal.returns
returns c = part_rows_are_counted
