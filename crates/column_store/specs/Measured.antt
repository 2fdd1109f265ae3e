-- The extent of a BIGINT column, as far as it has been taken.
use Rattle.std.specs.Prelude.{◌≡◌, ◌≤◌, ℕ, List, length, map, Option}
use Rattle.value_types.specs.declared.extent.Extent.{Extent}
use Rattle.value_types.specs.declared.types.Value.TheVariants as values
use Rattle.value_types.specs.Datum.{Datum, typed}
use Rattle.value_types.specs.Extent.{extent_of}
use Rattle.column_store.specs.declared.numbers.Numbers.{Numbers}
use Rattle.column_store.specs.Nullable.{datum_by}
use Rattle.column_store.specs.Numbers.{number_options}

-- the cells of numbers that may be null
abbrev pub number_cells : Numbers → List Datum
number_cells numbers = map (datum_by (λ n. typed (values.Int n))) (number_options numbers)

-- there are so many cells, and the first ones have this extent
pub record IsMeasured (measured : ℕ) (extent : Option Extent) (cells : List Datum) : Type 0 where
  pub within : measured ≤ length cells
  pub exact : extent ≡ extent_of measured cells
