-- Rows, of columns that stand side by side.
use Rattle.std.specs.Prelude.{◌≢◌, ℕ, List, slice_get, All, IsTrue}
use Rattle.std.specs.Prelude.{IsSomeAnd}
use Rattle.value_types.specs.declared.types.ColumnType.{ColumnType}
use Rattle.value_types.specs.declared.types.ColumnType.TheVariants as types
use Rattle.value_types.specs.Datum.{Datum}
use Rattle.value_types.specs.OfType.{fits}
use Rattle.value_types.specs.Views.{rows_from}

-- the first rows, as many as asked
abbrev pub rows_of : List (List Datum) → ℕ → List (List Datum)
rows_of columns count = rows_from columns 0 count

-- a cell fits the column of this number
abbrev pub FitsColumn : List ColumnType → ℕ → Datum → Type 0
FitsColumn tys column cell = IsSomeAnd (slice_get tys column) (λ ty. IsTrue (fits ty cell))

-- no column holds texts, so that a row takes as much memory as any other
abbrev pub HasNoTexts : List ColumnType → Type 0
HasNoTexts tys = All (λ ty. ty ≢ types.Varchar) tys
