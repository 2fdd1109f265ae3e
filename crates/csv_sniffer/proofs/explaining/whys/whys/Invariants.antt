use Rattle.std.proofs.Common.{◌≡◌, take}
use Rattle.std.specs.Prelude.{flat_map}
use Rattle.csv_sniffer.specs.Whys.{whys_of}
use Rattle.csv_sniffer.proofs.explaining.whys.whys.Given as goal

abbrev pub invariant-loop-column : goal.invariant-loop-column
invariant-loop-column l = l.whys.items ≡ flat_map whys_of (take l.column-index l.columns)
