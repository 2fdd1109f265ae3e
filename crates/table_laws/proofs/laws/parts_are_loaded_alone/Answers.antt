use Rattle.table_laws.proofs.AloneParts.{parts_are_loaded_alone}
use Rattle.table_laws.proofs.laws.parts_are_loaded_alone.Goals as goal

pub returns : goal.returns
returns c = parts_are_loaded_alone
