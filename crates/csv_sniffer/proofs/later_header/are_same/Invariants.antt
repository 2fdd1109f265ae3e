use Rattle.std.proofs.Common.{◌≡◌, drop}
use Rattle.std.specs.Cmp.Lexicographic.{pointwise}
use Rattle.std.specs.Str.{bytes_eq}
use Rattle.csv_sniffer.proofs.later_header.are_same.Given as goal

-- the names that are left decide
abbrev pub invariant-loop-column : goal.invariant-loop-column
invariant-loop-column l = pointwise bytes_eq (drop l.column l.names) (drop l.column l.others) ≡ pointwise bytes_eq l.names l.others
