use Rattle.loader_reply.proofs.OwnLaws.{one_is_read_alone}
use Rattle.loader_reply.proofs.laws.one_is_read_alone.Goals as goal

pub returns : goal.returns
returns c = one_is_read_alone
