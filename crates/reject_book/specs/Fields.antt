-- The fields of a reject, and their names (DuckDB's manual, "Reading Faulty CSV Files", `reject_errors`).
use Rattle.std.specs.Prelude.{ℕ, List, [], ◌∷◌, codes}
use Rattle.reject_book.specs.declared.fields.RejectField.{RejectField}
use Rattle.reject_book.specs.declared.fields.RejectField.TheVariants as lent
use Rattle.reject_book.specs.declared.reject.Reject.{Reject}
use Rattle.reject_book.specs.Kind.{name_of_kind}

-- a number, a name that this program gives, or bytes that need not be UTF-8
pub data Field : Type 0 where
  number : ℕ → Field
  text : List ℕ → Field
  bytes : List ℕ → Field

-- what a field that borrows its bytes is
abbrev pub field_of : RejectField → Field
field_of (lent.Number n) = number n
field_of (lent.Text t) = text t.now
field_of (lent.Bytes b) = bytes b.now

-- the names, in the order of the fields
abbrev pub field_names : List (List ℕ)
field_names =
    codes "scan_id"
    ∷ codes "file_id"
    ∷ codes "line"
    ∷ codes "line_byte_position"
    ∷ codes "byte_position"
    ∷ codes "column_idx"
    ∷ codes "column_name"
    ∷ codes "error_type"
    ∷ codes "csv_line"
    ∷ codes "error_message"
    ∷ []

abbrev pub fields_of : Reject → List Field
fields_of r =
    number r.scan_id
    ∷ number r.file_id
    ∷ number r.line
    ∷ number r.line_byte_position
    ∷ number r.byte_position
    ∷ number r.column_idx
    ∷ bytes r.column_name
    ∷ text (name_of_kind r.error_type)
    ∷ bytes r.csv_line
    ∷ bytes r.error_message
    ∷ []
