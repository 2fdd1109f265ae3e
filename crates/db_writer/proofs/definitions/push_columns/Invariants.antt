use Rattle.std.proofs.Common.{◌≡◌, ◌++◌, take}
use Rattle.std.specs.Prelude.{zip}
use Rattle.db_writer.specs.Definitions.{columns_text}
use Rattle.db_writer.proofs.definitions.push_columns.Given as goal

abbrev pub invariant-loop-column : goal.invariant-loop-column
invariant-loop-column l = l.into.items ≡ l.fn.into.items ++ columns_text (take l.column (zip l.names l.types))
