-- The sheets of an archive that are about its columns and its rows (this writer's profile).
use Rattle.std.specs.Prelude.{ℕ, List, [], ◌∷◌, codes, map}
use Rattle.std.specs.List.{zip}
use Rattle.value_types.specs.declared.types.ColumnType.{ColumnType}
use Rattle.value_types.specs.declared.types.ColumnType.TheVariants.{Varchar}
use Rattle.value_types.specs.Datum.{Datum, text}
use Rattle.value_types.specs.TypeName.{name_of_type}
use Rattle.npz_writer.specs.Sheets.{SheetView}

-- columns by their keys and their types, and rows
abbrev pub sheet : List (List ℕ × ColumnType) → List (List Datum) → SheetView
sheet columns rows = record { keys = map (λ column. column.0) columns; types = map (λ column. column.1) columns; rows = rows }

abbrev pub label_columns : List (List ℕ × ColumnType)
label_columns = (codes ":names", Varchar) ∷ (codes ":types", Varchar) ∷ []

-- the key of a column and its type's name
abbrev pub label : List ℕ × ColumnType → List Datum
label column = text column.0 ∷ text (name_of_type column.1) ∷ []

abbrev pub labels : List (List ℕ) → List ColumnType → SheetView
labels keys types = sheet label_columns (map label (zip keys types))
