use Rattle.table_laws.proofs.FirstFaults.{first_faults_are_of_parts}
use Rattle.table_laws.proofs.laws.first_faults_are_of_parts.Goals as goal

pub returns : goal.returns
returns c = first_faults_are_of_parts
