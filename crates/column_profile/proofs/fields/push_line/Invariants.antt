use Rattle.std.proofs.Common.{◌≡◌, ◌++◌, take, map}
use Rattle.std.specs.List.{join_with_byte}
use Rattle.column_profile.specs.Fields.{field_text}
use Rattle.column_profile.proofs.fields.push_line.Given as goal

abbrev pub invariant-loop-number : goal.invariant-loop-number
invariant-loop-number l = l.into.text ≡ l.fn.into.text ++ join_with_byte 44 (map field_text (take l.number l.fields))
