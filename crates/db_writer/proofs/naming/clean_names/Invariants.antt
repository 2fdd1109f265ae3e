use Rattle.std.proofs.Common.{◌≡◌, ◌++◌, map, drop}
use Rattle.db_writer.specs.Naming.{clean_name}
use Rattle.db_writer.proofs.naming.clean_names.Given as goal

-- the names so far, and those that are left
abbrev pub invariant-loop-column : goal.invariant-loop-column
invariant-loop-column l = l.made ++ map clean_name (drop l.column l.names) ≡ map clean_name l.names
