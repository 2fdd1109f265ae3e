use Rattle.part_cuts.proofs.CoverLaws.{no_cut_is_missed}
use Rattle.part_cuts.proofs.laws.no_cut_is_missed.Goals as goal

pub returns : goal.returns
returns c = no_cut_is_missed
