use Rattle.table_laws.proofs.PartReadings.{parts_are_read_alone}
use Rattle.table_laws.proofs.laws.parts_are_read_alone.Goals as goal

pub returns : goal.returns
returns c = parts_are_read_alone
