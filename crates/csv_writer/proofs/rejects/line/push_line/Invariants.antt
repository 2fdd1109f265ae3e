use Rattle.std.proofs.Common.{◌≡◌, ◌++◌, take, map}
use Rattle.std.specs.List.{join_with_byte}
use Rattle.csv_writer.specs.WrittenField.{written_field}
use Rattle.csv_writer.proofs.rejects.line.push_line.Given as goal

abbrev pub invariant-loop-column : goal.invariant-loop-column
invariant-loop-column l = l.into.text ≡ l.fn.into.text ++ join_with_byte 44 (map written_field (take l.column l.fields))
