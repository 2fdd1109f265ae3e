use Rattle.std.proofs.Common.{◌≡◌, ℕ, List, [], ◌++◌, map, reverse, length, drop}
use Rattle.load_options.specs.Texts.{is_among}
use Rattle.csv_sniffer.specs.ColumnNames.{is_key}
use Rattle.db_writer.specs.Naming.{NumbersAreTaken, folded, names_apart}
use Rattle.db_writer.proofs.naming.names_apart.Given as goal

-- the names so far, and those of the columns that are left; the keys of the set are the names so far, folded, and the numbers' names
-- are taken up to them
abbrev pub invariant-loop-column : goal.invariant-loop-column
invariant-loop-column l = record {
  names : l.made ++ names_apart (reverse l.made) (drop l.column l.names) ≡ names_apart [] l.names;
  keys : (name : List ℕ) → is_key l.taken.keys (λ key. key.items) name ≡ is_among (map folded (reverse l.made)) name;
  noted : NumbersAreTaken l.taken.keys l.numbers.entries (λ key. key.items);
  count : length l.made ≡ l.column;
}
