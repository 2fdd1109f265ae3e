use Rattle.dialect_rank.proofs.OneField.{undelimited_is_one_field}
use Rattle.dialect_rank.proofs.laws.undelimited_is_one_field.Goals as goal

pub returns : goal.returns
returns c = λ d row none. undelimited_is_one_field d row none
