-- The least and the greatest number of some cells.
use Rattle.std.specs.Prelude.{ℕ, List, take, Option, Some, None, ℤ}
use Rattle.std.specs.Int.{int_min, int_max}
use Rattle.std.specs.List.{fold}
use Rattle.value_types.specs.declared.extent.Extent.{Extent}
use Rattle.value_types.specs.declared.types.Value.{Value}
use Rattle.value_types.specs.declared.types.Value.TheVariants as values
use Rattle.value_types.specs.Datum.{Datum, null, typed, text}

-- an extent that takes in a number
abbrev pub taking_in : Option Extent → ℤ → Option Extent
taking_in None n = Some (record { least = n; greatest = n })
taking_in (Some extent) n = Some (record { least = int_min extent.least n; greatest = int_max extent.greatest n })

-- an extent with a value: numbers alone count
abbrev pub extent_with_value : Option Extent → Value → Option Extent
extent_with_value extent (values.Int n) = taking_in extent n
extent_with_value extent (values.Bool b) = extent
extent_with_value extent (values.Date day) = extent
extent_with_value extent (values.Time micros) = extent
extent_with_value extent (values.Stamp stamp) = extent

-- an extent with a cell
abbrev pub extent_with : Option Extent → Datum → Option Extent
extent_with extent null = extent
extent_with extent (typed value) = extent_with_value extent value
extent_with extent (text bytes) = extent

-- the extent of the first cells, where there is a number among them
abbrev pub extent_of : ℕ → List Datum → Option Extent
extent_of count cells = fold extent_with None (take count cells)

-- the extent of the numbers of two
abbrev pub widened : Option Extent → Option Extent → Option Extent
widened None other = other
widened (Some extent) None = Some extent
widened (Some extent) (Some other) = Some (record { least = int_min extent.least other.least; greatest = int_max extent.greatest other.greatest })
