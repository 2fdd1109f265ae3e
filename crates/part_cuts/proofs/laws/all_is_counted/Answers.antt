use Rattle.part_cuts.proofs.StartLaws.{all_is_counted}
use Rattle.part_cuts.proofs.laws.all_is_counted.Goals as goal

pub returns : goal.returns
returns c = all_is_counted
