use Rattle.loader_reply.proofs.ReadingLaws.{verdicts_are_of_part}
use Rattle.loader_reply.proofs.laws.verdicts_are_of_part.Goals as goal

pub returns : goal.returns
returns c = λ file_id d schema input start no. verdicts_are_of_part file_id d schema input start no
