-- Rows that have a text, each by itself (this loader's profile).
use Rattle.std.specs.Prelude.{◌≡◌, List, length, All}
use Rattle.value_types.specs.declared.types.ColumnType.{ColumnType}
use Rattle.value_types.specs.Datum.{Datum}
use Rattle.value_types.specs.Spelled.{IsSpelledCell}

-- as many cells as types, of values that some text spells
pub record IsPrintableRow (tys : List ColumnType) (cells : List Datum) : Type 0 where
  pub count : length cells ≡ length tys
  pub values : All IsSpelledCell cells
