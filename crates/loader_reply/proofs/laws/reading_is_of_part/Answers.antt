use Rattle.loader_reply.proofs.GroupReading.{reading_is_of_part}
use Rattle.loader_reply.proofs.laws.reading_is_of_part.Goals as goal

pub returns : goal.returns
returns c = reading_is_of_part
