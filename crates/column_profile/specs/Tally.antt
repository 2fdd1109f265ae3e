-- What is known of a column, by its cells.
use Rattle.std.specs.Prelude.{ℕ, ◌+◌, min, max, nat_le, Bool, true, false, if◌then◌else◌, List, [], ◌∷◌, ◌++◌, length, count_by, Option, Some, None}
use Rattle.std.specs.List.{fold, list_any}
use Rattle.std.specs.Str.{bytes_eq}
use Rattle.value_types.specs.declared.types.Value.{Value}
use Rattle.value_types.specs.Datum.{Datum, null, typed, text}
use Rattle.column_profile.specs.declared.lengths.Lengths.{Lengths}
use Rattle.column_profile.specs.declared.span.Span.{Span}
use Rattle.column_profile.specs.declared.limits.TheConstants.{MOST_DIFFERENT}
use Rattle.column_profile.specs.Values.{same_value, lesser, greater}

abbrev pub is_null_cell : Datum → Bool
is_null_cell null = true
is_null_cell (typed value) = false
is_null_cell (text bytes) = false

-- ---- different values

-- elements of which no two are the same, with one more, if none of them is the same
abbrev pub with_one : {A : Type 0} → (A → A → Bool) → List A → A → List A
with_one same elements x = if list_any (same x) elements then elements else elements ++ x ∷ []

-- the different values and the different texts of some cells, in the order in which they first come
pub record Apart : Type 0 where
  pub values : List Value
  pub texts : List (List ℕ)

abbrev pub nothing_apart : Apart
nothing_apart = record { values = []; texts = [] }

-- null is no value
abbrev pub apart_with : Apart → Datum → Apart
apart_with apart null = apart
apart_with apart (typed value) = record apart { values = with_one same_value apart.values value }
apart_with apart (text bytes) = record apart { texts = with_one bytes_eq apart.texts bytes }

abbrev pub apart_in : List Datum → Apart
apart_in cells = fold apart_with nothing_apart cells

-- how many they are
abbrev pub apart_count : Apart → ℕ
apart_count apart = length apart.values + length apart.texts

-- the same, and none where they are more
abbrev pub within_most : Apart → Option Apart
within_most apart = if nat_le (apart_count apart) MOST_DIFFERENT then Some apart else None

-- ---- the least and the greatest value

-- a span that takes in a value
abbrev pub spanned : Option Span → Value → Option Span
spanned None value = Some (record { least = value; greatest = value })
spanned (Some span) value = Some (record { least = lesser span.least value; greatest = greater span.greatest value })

-- a span with a cell: null and texts count for nothing
abbrev pub span_with : Option Span → Datum → Option Span
span_with span null = span
span_with span (typed value) = spanned span value
span_with span (text bytes) = span

abbrev pub span_of : List Datum → Option Span
span_of cells = fold span_with None cells

-- ---- the least and the greatest length of a text

abbrev pub measured : Option Lengths → ℕ → Option Lengths
measured None n = Some (record { shortest = n; longest = n })
measured (Some lengths) n = Some (record { shortest = min lengths.shortest n; longest = max lengths.longest n })

-- lengths with a cell: texts alone count, also empty ones
abbrev pub lengths_with : Option Lengths → Datum → Option Lengths
lengths_with lengths null = lengths
lengths_with lengths (typed value) = lengths
lengths_with lengths (text bytes) = measured lengths (length bytes)

abbrev pub lengths_of : List Datum → Option Lengths
lengths_of cells = fold lengths_with None cells

-- ---- all of it

-- how many cells are null; the different values and texts, if they are not too many; the least and the greatest value; the
-- lengths of the shortest and the longest text
pub record Tally : Type 0 where
  pub nulls : ℕ
  pub apart : Option Apart
  pub span : Option Span
  pub lengths : Option Lengths

abbrev pub tally_of : List Datum → Tally
tally_of cells = record {
  nulls = count_by is_null_cell cells;
  apart = within_most (apart_in cells);
  span = span_of cells;
  lengths = lengths_of cells;
}
