-- The fields of a line of a profile.
use Rattle.std.specs.Prelude.{ℕ, List, [], ⊤}
use Rattle.std.specs.Fmt.{decimal}
use Rattle.value_types.specs.Spelled.{IsSpelled}
use Rattle.value_types.specs.ValueText.{value_text}
use Rattle.csv_writer.specs.WrittenTable.{text_field}
use Rattle.column_profile.specs.declared.fields.Field.{Field}
use Rattle.column_profile.specs.declared.fields.Field.TheVariants as fields

abbrev pub field_text : Field → List ℕ
field_text fields.Nothing = []
field_text (fields.Number n) = decimal n
field_text (fields.Typed value) = value_text value
field_text (fields.Text bytes) = text_field bytes.now

-- a value among the fields is one that can be printed
abbrev pub IsSpelledField : Field → Type 0
IsSpelledField fields.Nothing = ⊤
IsSpelledField (fields.Number n) = ⊤
IsSpelledField (fields.Typed value) = IsSpelled value
IsSpelledField (fields.Text bytes) = ⊤
