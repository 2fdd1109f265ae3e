-- How many cells a column has that is seen by slices.
use Rattle.std.proofs.Common.{◌≡◌, ℕ, suc, ◌≤◌, Bool, List, [], ◌∷◌, length, refl, ap, arith}
use Rattle.value_types.specs.Datum.{Datum, typed, text}
use Rattle.value_types.specs.declared.types.Value.TheVariants as values
use Rattle.value_types.specs.declared.views.ColumnView.{ColumnView}
use Rattle.value_types.specs.declared.views.ColumnView.TheVariants as views
use Rattle.value_types.specs.Marked.{marked}
use Rattle.value_types.specs.Packed.{numbers_in}
use Rattle.value_types.specs.Views.{HasRows, view_cells}

pub length-marked : {A : Type 0} (cell : A → Datum) (nulls : List Bool) (values : List A) → length (marked cell nulls values) ≡ length values
length-marked cell nulls [] = refl
length-marked cell [] (v ∷ values) = ap suc (length-marked cell [] values)
length-marked cell (n ∷ nulls) (v ∷ values) = ap suc (length-marked cell nulls values)

-- as many cells as rows at least
pub cells_of_rows : (rows : ℕ) (view : ColumnView) → HasRows rows view → rows ≤ length (view_cells view)
cells_of_rows rows (views.Boolean nulls column) long = omega (arith, long, length-marked (λ b. typed (values.Bool b)) nulls.now column.now)
cells_of_rows rows (views.Bigint column) long = omega (arith, long, length-marked (λ n. typed (values.Int n)) column.nulls.now (numbers_in column.values))
cells_of_rows rows (views.Date nulls column) long = omega (arith, long, length-marked (λ n. typed (values.Date n)) nulls.now column.now)
cells_of_rows rows (views.Time nulls column) long = omega (arith, long, length-marked (λ n. typed (values.Time n)) nulls.now column.now)
cells_of_rows rows (views.Timestamp nulls column) long = omega (arith, long, length-marked (λ n. typed (values.Stamp n)) nulls.now column.now)
cells_of_rows rows (views.Varchar nulls texts) long = omega (arith, long, length-marked text nulls.now texts.now)
