use Rattle.part_cuts.proofs.ReadingLaws.{pieces_add_up}
use Rattle.part_cuts.proofs.laws.pieces_add_up.Goals as goal

pub returns : goal.returns
returns c = pieces_add_up
