use Rattle.std.proofs.Common.{◌≡◌, length, take}
use Rattle.column_taps.specs.Pairs.{pairs_with}
use Rattle.column_taps.specs.KeptPairs.{pairs_in}
use Rattle.column_taps.proofs.pairs.KeptPairs.add_row.Given as goal

abbrev pub invariant-loop-column : goal.invariant-loop-column
invariant-loop-column l =
    record {
      items : pairs_in l.self ≡ pairs_with 0 (pairs_in l.fn.self) (take l.column l.row);
      kept : take (length (pairs_in l.fn.self)) (pairs_in l.self) ≡ pairs_in l.fn.self;
    }
