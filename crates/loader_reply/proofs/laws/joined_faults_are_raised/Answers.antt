use Rattle.loader_reply.proofs.GroupReading.{joined_faults_are_raised}
use Rattle.loader_reply.proofs.laws.joined_faults_are_raised.Goals as goal

pub returns : goal.returns
returns c = joined_faults_are_raised
