use Rattle.std.proofs.Common.{ap, ◌∙◌}
use Rattle.value_types.proofs.WordDigits.{flagged, flagged_digits}
use Rattle.value_types.proofs.words.are_digits.Goals as goal

pub returns : goal.returns
returns c worths is word = ap flagged word ∙ flagged_digits worths is
