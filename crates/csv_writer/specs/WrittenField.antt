-- A field of a line as it is written.
use Rattle.std.specs.Prelude.{ℕ, List}
use Rattle.std.specs.Fmt.{decimal}
use Rattle.csv_writer.specs.WrittenTable.{text_field}
use Rattle.reject_book.specs.declared.fields.RejectField.{RejectField}
use Rattle.reject_book.specs.Fields.{Field, number, text, bytes, field_of}

-- the decimal digits of a number, bytes as they are
abbrev pub plain_field : Field → List ℕ
plain_field (number n) = decimal n
plain_field (text t) = t
plain_field (bytes b) = b

-- by the rule for texts
abbrev pub written_field : RejectField → List ℕ
written_field field = text_field (plain_field (field_of field))
