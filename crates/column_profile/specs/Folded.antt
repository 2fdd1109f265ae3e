-- What is known of a column with more cells.
use Rattle.std.specs.Prelude.{◌+◌, List, count_by, Option, Some, None, ℤ}
use Rattle.std.specs.List.{fold}
use Rattle.value_types.specs.declared.extent.Extent.{Extent}
use Rattle.value_types.specs.declared.types.Value.{Value}
use Rattle.value_types.specs.Datum.{Datum}
use Rattle.column_profile.specs.declared.span.Span.{Span}
use Rattle.column_profile.specs.Tally.{Apart, Tally, apart_with, is_null_cell, lengths_with, span_with, within_most}
use Rattle.column_profile.specs.Values.{lesser, greater}

-- once there are too many different ones, none are kept
abbrev pub kept_with : Option Apart → Datum → Option Apart
kept_with None cell = None
kept_with (Some apart) cell = within_most (apart_with apart cell)

-- the span of the values of two, of which the first comes before
abbrev pub joined : Option Span → Option Span → Option Span
joined None other = other
joined (Some span) None = Some span
joined (Some span) (Some other) = Some (record { least = lesser span.least other.least; greatest = greater span.greatest other.greatest })

-- the span of the values that are made of numbers
abbrev pub span_by : (ℤ → Value) → Option Extent → Option Span
span_by make None = None
span_by make (Some extent) = Some (record { least = make extent.least; greatest = make extent.greatest })

abbrev pub tally_after : Tally → List Datum → Tally
tally_after tally cells = record {
  nulls = tally.nulls + count_by is_null_cell cells;
  apart = fold kept_with tally.apart cells;
  span = fold span_with tally.span cells;
  lengths = fold lengths_with tally.lengths cells;
}
