-- A table's chunks, seen by their columns.
use Rattle.std.specs.Prelude.{◌≡◌, ◌<◌, ℕ, List, length, flat_map, false, All}
use Rattle.value_types.specs.Datum.{Datum}
use Rattle.value_types.specs.Views.{view_rows, HasRows}
use Rattle.column_profile.specs.declared.column.Column.{Column}
use Rattle.column_profile.specs.declared.parts.Part.{Part}
use Rattle.column_profile.specs.Folded.{tally_after}
use Rattle.column_profile.specs.Kept.{tally_in, HasSpelledSpan}
use Rattle.column_profile.specs.Profile.{cells_in}

abbrev pub part_rows : Part → List (List Datum)
part_rows part = view_rows part.views.items part.rows

abbrev pub rows_of : List Part → List (List Datum)
rows_of parts = flat_map part_rows parts

-- a part of so many columns, each of which has its rows
pub record IsPart (width : ℕ) (part : Part) : Type 0 where
  pub wide : length part.views.items ≡ width
  pub long : All (HasRows part.rows) part.views.items

-- a part that has a column of this number
pub record HasColumn (number : ℕ) (part : Part) : Type 0 where
  pub within : number < length part.views.items
  pub long : All (HasRows part.rows) part.views.items

-- a column of a profile, of this number, has taken in the cells of parts, unless memory was wanting
pub record TakesIn (number : ℕ) (rows : List (List Datum)) (old new : Column) : Type 0 where
  pub tally : new.is_wanting ≡ false → tally_in new ≡ tally_after (tally_in old) (cells_in number rows)
  pub spelled : HasSpelledSpan (tally_in new)
