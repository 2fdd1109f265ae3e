use Rattle.std.proofs.Common.{◌≡◌, ◌++◌, take}
use Rattle.csv_writer.specs.Quoting.{doubled}
use Rattle.db_writer.proofs.definitions.push_doubled.Given as goal

abbrev pub invariant-loop-byte : goal.invariant-loop-byte
invariant-loop-byte l = l.into.items ≡ l.fn.into.items ++ doubled (take l.byte-index l.name)
