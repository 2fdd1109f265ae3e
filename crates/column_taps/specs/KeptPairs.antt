-- The pairs that a tap keeps.
use Rattle.std.specs.Prelude.{List, map}
use Rattle.column_taps.specs.declared.pairs.Key.{Key}
use Rattle.column_taps.specs.declared.pairs.KeptPairs.{KeptPairs}
use Rattle.column_taps.specs.Pairs.{Pair}

abbrev pub pair_of : Key → Pair
pair_of key = record { column = key.column; text = key.text.items }

abbrev pub pairs_in : KeptPairs → List Pair
pairs_in kept = map pair_of kept.keys.keys
