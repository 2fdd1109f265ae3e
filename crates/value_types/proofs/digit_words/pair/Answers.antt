use Rattle.std.proofs.Common.{arith}
use Rattle.value_types.proofs.BlockBytes.{pair_at}
use Rattle.value_types.proofs.digit_words.pair.Goals as goal

pub returns-clause-value : goal.returns-clause-value
returns-clause-value c = let found = pair_at c.args.number c.requires in omega (arith, found.0, found.1)
