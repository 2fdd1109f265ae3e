use Rattle.loader_reply.proofs.EachFile.{rows_are_of_each}
use Rattle.loader_reply.proofs.laws.rows_are_of_each.Goals as goal

pub returns : goal.returns
returns c = rows_are_of_each
