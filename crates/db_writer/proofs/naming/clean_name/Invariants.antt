use Rattle.std.proofs.Common.{◌≡◌, take}
use Rattle.db_writer.specs.Naming.{clean_name}
use Rattle.db_writer.proofs.naming.clean_name.Given as goal

abbrev pub invariant-loop-byte : goal.invariant-loop-byte
invariant-loop-byte l = l.clean.items ≡ clean_name (take l.byte-index l.name)
