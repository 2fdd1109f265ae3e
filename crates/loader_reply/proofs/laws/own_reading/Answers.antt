use Rattle.loader_reply.proofs.OwnLaws.{own_reading}
use Rattle.loader_reply.proofs.laws.own_reading.Goals as goal

pub returns : goal.returns
returns c = own_reading
