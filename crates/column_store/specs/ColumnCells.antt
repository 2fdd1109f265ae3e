-- What a column is: a type, its cells, and how many fit into its memory.
use Rattle.std.specs.Prelude.{ℕ, List, map, vec_capacity}
use Rattle.value_types.specs.declared.types.ColumnType.{ColumnType}
use Rattle.value_types.specs.declared.types.ColumnType.TheVariants as types
use Rattle.value_types.specs.declared.types.Value.TheVariants as values
use Rattle.value_types.specs.Datum.{Datum, typed, text}
use Rattle.column_store.specs.declared.column.Column.{Column}
use Rattle.column_store.specs.declared.column.Column.TheVariants as columns
use Rattle.column_store.specs.Measured.{number_cells}
use Rattle.column_store.specs.Numbers.{number_room}
use Rattle.column_store.specs.Nullable.{datum_by, options, texts_or_null, room}

abbrev pub type_of : Column → ColumnType
type_of (columns.Boolean column) = types.Boolean
type_of (columns.Bigint column) = types.Bigint
type_of (columns.Date column) = types.Date
type_of (columns.Time column) = types.Time
type_of (columns.Timestamp column) = types.Timestamp
type_of (columns.Varchar column) = types.Varchar

abbrev pub cells_of : Column → List Datum
cells_of (columns.Boolean column) = map (datum_by (λ b. typed (values.Bool b))) (options column)
cells_of (columns.Bigint column) = number_cells column.numbers
cells_of (columns.Date column) = map (datum_by (λ n. typed (values.Date n))) (options column)
cells_of (columns.Time column) = map (datum_by (λ n. typed (values.Time n))) (options column)
cells_of (columns.Timestamp column) = map (datum_by (λ n. typed (values.Stamp n))) (options column)
cells_of (columns.Varchar column) = map (datum_by text) (texts_or_null column)

-- how many cells fit without more memory, the bytes of texts apart
abbrev pub room_of : Column → ℕ
room_of (columns.Boolean column) = room column
room_of (columns.Bigint column) = number_room column.numbers
room_of (columns.Date column) = room column
room_of (columns.Time column) = room column
room_of (columns.Timestamp column) = room column
room_of (columns.Varchar column) = vec_capacity column.nulls
