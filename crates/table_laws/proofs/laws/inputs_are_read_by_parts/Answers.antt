use Rattle.table_laws.proofs.InputParts.{inputs_are_read_by_parts}
use Rattle.table_laws.proofs.laws.inputs_are_read_by_parts.Goals as goal

pub returns : goal.returns
returns c = inputs_are_read_by_parts
