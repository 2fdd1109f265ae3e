use Rattle.std.proofs.Common.{ap, sym, ◌∙◌, map}
use Rattle.std.proofs.lemmas.List.{take-map}
use Rattle.column_taps.specs.KeptPairs.{pair_of}
use Rattle.column_taps.proofs.pairs.KeptPairs.truncate.Goals as goal

pub returns : goal.returns
returns c = ap (map pair_of) c.truncate.ensures.keys ∙ sym (take-map pair_of c.args.count c.args.self.now.keys.keys)
