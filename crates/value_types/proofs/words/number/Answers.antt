use Rattle.std.proofs.Common.{ap, ◌∙◌}
use Rattle.value_types.proofs.WordDigits.{joined, joined_spells}
use Rattle.value_types.proofs.words.number.Goals as goal

pub returns : goal.returns
returns c worths is digits word = ap joined word ∙ joined_spells worths is.0 digits
