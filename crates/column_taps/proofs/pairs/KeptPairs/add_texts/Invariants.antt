use Rattle.std.proofs.Common.{◌≡◌, length, take}
use Rattle.column_taps.specs.KeptPairs.{pairs_in}
use Rattle.column_taps.specs.TextColumns.{pairs_with_texts}
use Rattle.column_taps.proofs.pairs.KeptPairs.add_texts.Given as goal

abbrev pub invariant-loop-column : goal.invariant-loop-column
invariant-loop-column l =
    record {
      items : pairs_in l.self ≡ pairs_with_texts l.row (pairs_in l.fn.self) (take l.column-index l.columns);
      kept : take (length (pairs_in l.fn.self)) (pairs_in l.self) ≡ pairs_in l.fn.self;
    }
