use Rattle.column_profile.proofs.Portions.{portions_all, portions_compose}
use Rattle.column_profile.proofs.laws.portions_make_all.Goals as goal

pub returns-clause-compose : goal.returns-clause-compose
returns-clause-compose c = portions_compose

pub returns-clause-all : goal.returns-clause-all
returns-clause-all c = portions_all
