use Rattle.column_profile.proofs.Counted.{cells_counted}
use Rattle.column_profile.proofs.laws.cells_are_counted.Goals as goal

pub returns : goal.returns
returns c = cells_counted
