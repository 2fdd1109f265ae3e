use Rattle.loader_reply.proofs.FixedReplies.{fixed_has_same_reply}
use Rattle.loader_reply.proofs.laws.fixed_has_same_reply.Goals as goal

pub returns : goal.returns
returns c = fixed_has_same_reply
