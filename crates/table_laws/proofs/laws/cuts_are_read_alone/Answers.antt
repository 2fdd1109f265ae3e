use Rattle.table_laws.proofs.CutReading.{cuts_are_read_alone}
use Rattle.table_laws.proofs.laws.cuts_are_read_alone.Goals as goal

pub returns : goal.returns
returns c = cuts_are_read_alone
