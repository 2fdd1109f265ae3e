use Rattle.loader_reply.proofs.NamedReplies.{named_has_same_reply}
use Rattle.loader_reply.proofs.laws.named_has_same_reply.Goals as goal

pub returns : goal.returns
returns c = named_has_same_reply
