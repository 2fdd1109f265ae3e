use Rattle.csv_sniffer.specs.ColumnNames.{IsTakenTo, NumbersAreTaken}
use Rattle.csv_sniffer.proofs.detected_names.first_free.Given as goal

-- the name is taken with the numbers so far, and what is noted stays
abbrev pub invariant-loop-tried : goal.invariant-loop-tried
invariant-loop-tried l = record {
  tried : IsTakenTo l.taken.keys (λ key. key.items) l.name.items l.tried;
  noted : NumbersAreTaken l.taken.keys l.numbers.entries (λ key. key.items);
}
