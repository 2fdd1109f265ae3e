use Rattle.loader_reply.proofs.HeadLaws.{found_in_head}
use Rattle.loader_reply.proofs.laws.found_in_head.Goals as goal

pub returns : goal.returns
returns c = found_in_head
