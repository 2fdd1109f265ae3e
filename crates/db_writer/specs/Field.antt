-- The values of rejects, as they are written.
use Rattle.std.specs.Prelude.{pos}
use Rattle.sqlite_value.specs.declared.value.Value.{Value}
use Rattle.sqlite_value.specs.declared.value.Value.TheVariants as stored
use Rattle.reject_book.specs.declared.fields.RejectField.{RejectField}
use Rattle.reject_book.specs.Fields.{Field, number, text, bytes, field_of}
use Rattle.db_writer.specs.Stored.{text_or_blob}

abbrev pub stored_field : Field → Value
stored_field (number n) = stored.Int (pos n)
stored_field (text t) = stored.Text t
stored_field (bytes b) = text_or_blob b

-- of a field that borrows its bytes
abbrev pub field_value : RejectField → Value
field_value field = stored_field (field_of field)
