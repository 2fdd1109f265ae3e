use Rattle.std.proofs.Common.{refl}
use Rattle.load_options.proofs.laws.second_names.Goals as goal

pub returns : goal.returns
returns c = λ command words text. (refl, refl, refl, refl)
