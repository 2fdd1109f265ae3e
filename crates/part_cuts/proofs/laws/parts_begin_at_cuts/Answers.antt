use Rattle.part_cuts.proofs.StartLaws.{parts_begin_at_cuts}
use Rattle.part_cuts.proofs.laws.parts_begin_at_cuts.Goals as goal

pub returns : goal.returns
returns c = parts_begin_at_cuts
