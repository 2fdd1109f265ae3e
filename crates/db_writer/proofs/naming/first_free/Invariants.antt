use Rattle.std.proofs.Common.{◌≡◌}
use Rattle.csv_sniffer.specs.ColumnNames.{first_free}
use Rattle.db_writer.specs.Naming.{IsTakenTo, NumbersAreTaken, is_taken}
use Rattle.db_writer.proofs.NamesApart.{free_from}
use Rattle.db_writer.proofs.naming.first_free.Given as goal

-- the names with the numbers so far are taken, and what is noted stays
abbrev pub invariant-loop-tried : goal.invariant-loop-tried
invariant-loop-tried l = record {
  free : free_from (is_taken l.taken.keys (λ key. key.items)) l.name.items l.count l.tried ≡ first_free (is_taken l.taken.keys (λ key. key.items)) l.count l.name.items;
  tried : IsTakenTo l.taken.keys (λ key. key.items) l.key.items l.tried;
  noted : NumbersAreTaken l.taken.keys l.numbers.entries (λ key. key.items);
}
