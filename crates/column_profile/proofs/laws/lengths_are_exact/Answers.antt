use Rattle.column_profile.proofs.LengthLaws.{lengths_exact}
use Rattle.column_profile.proofs.laws.lengths_are_exact.Goals as goal

pub returns : goal.returns
returns c = lengths_exact
