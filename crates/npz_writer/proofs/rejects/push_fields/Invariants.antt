use Rattle.std.proofs.Common.{◌≡◌, ◌++◌, map, drop}
use Rattle.reject_book.specs.Fields.{field_of}
use Rattle.npz_writer.specs.RejectSheets.{cells_of}
use Rattle.npz_writer.proofs.rejects.push_fields.Given as goal

-- the cells so far, and those that are left
abbrev pub invariant-loop-field : goal.invariant-loop-field
invariant-loop-field l = l.cells ++ cells_of (map field_of (drop l.field-index l.fields)) ≡ cells_of (map field_of l.fields)
