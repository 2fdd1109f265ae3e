use Rattle.table_laws.proofs.AloneParts.{parts_are_found_alike}
use Rattle.table_laws.proofs.laws.parts_are_found_alike.Goals as goal

pub returns : goal.returns
returns c = parts_are_found_alike
