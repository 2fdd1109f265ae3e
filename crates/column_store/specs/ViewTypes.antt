-- The type of a column that is seen by slices.
use Rattle.value_types.specs.declared.types.ColumnType.{ColumnType}
use Rattle.value_types.specs.declared.types.ColumnType.TheVariants as types
use Rattle.value_types.specs.declared.views.ColumnView.{ColumnView}
use Rattle.value_types.specs.declared.views.ColumnView.TheVariants as views

abbrev pub type_of_view : ColumnView → ColumnType
type_of_view (views.Boolean nulls column) = types.Boolean
type_of_view (views.Bigint column) = types.Bigint
type_of_view (views.Date nulls column) = types.Date
type_of_view (views.Time nulls column) = types.Time
type_of_view (views.Timestamp nulls column) = types.Timestamp
type_of_view (views.Varchar nulls texts) = types.Varchar
