use Rattle.std.proofs.Common.{◌≡◌, ◌++◌, take}
use Rattle.std.specs.Prelude.{flat_map}
use Rattle.csv_sniffer.specs.Hints.{zero_hint}
use Rattle.csv_sniffer.proofs.explaining.zero_hints.push_zero_hints.Given as goal

abbrev pub invariant-loop-column : goal.invariant-loop-column
invariant-loop-column l = l.into.items ≡ l.fn.into.items ++ flat_map zero_hint (take l.column-index l.columns)
