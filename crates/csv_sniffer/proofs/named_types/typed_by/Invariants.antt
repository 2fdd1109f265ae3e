use Rattle.std.proofs.Common.{◌≡◌, ◌++◌, drop}
use Rattle.csv_sniffer.specs.NamedTypes.{types_by_name}
use Rattle.csv_sniffer.proofs.named_types.typed_by.Given as goal

-- the types so far, and those of the columns that are left
abbrev pub invariant-loop-column : goal.invariant-loop-column
invariant-loop-column l = l.types ++ types_by_name l.given (drop l.column l.names) (drop l.column l.found) ≡ types_by_name l.given l.names l.found
