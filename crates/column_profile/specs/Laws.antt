-- What a profile says of the cells of a column and of rows, whoever summed it up.
use Rattle.std.specs.Prelude.{◌≡◌, ◌≤◌, ◌<◌, ◌≤ℤ◌, ◌+◌, ℕ, Bool, true, false, not, List, [], ◌++◌, length, count_by, All}
use Rattle.std.specs.List.{Contains, list_any, slice_index_or}
use Rattle.std.specs.Option.{MatchOption}
use Rattle.std.specs.Str.{bytes_eq}
use Rattle.value_types.specs.declared.types.ColumnType.{ColumnType}
use Rattle.value_types.specs.Datum.{Datum, null, typed, text}
use Rattle.column_profile.specs.declared.lengths.Lengths.{Lengths}
use Rattle.column_profile.specs.declared.span.Span.{Span}
use Rattle.column_profile.specs.Profile.{ProfileView, cells_in, profile_of, Continues}
use Rattle.column_profile.specs.Tally.{Apart, apart_in, is_null_cell, lengths_of, span_of, tally_of}
use Rattle.column_profile.specs.Values.{number_of, same_value}

-- ---- how many cells are null

-- how many aren't
abbrev pub values_among : List Datum → ℕ
values_among cells = count_by (λ cell. not (is_null_cell cell)) cells

-- of each column nulls and values together are the rows
abbrev pub CellsAreCounted : Type 0
CellsAreCounted = (column : ℕ) (rows : List (List Datum)) → (tally_of (cells_in column rows)).nulls + values_among (cells_in column rows) ≡ length rows

-- ---- the least and the greatest value

abbrev pub HasNoValue : Datum → Type 0
HasNoValue null = Unit {0}
HasNoValue (typed value) = ⊥
HasNoValue (text bytes) = Unit {0}

-- a value stands neither below the least nor above the greatest one
abbrev pub StandsWithin : Span → Datum → Type 0
StandsWithin span null = Unit {0}
StandsWithin span (typed value) = (number_of span.least ≤ℤ number_of value) × (number_of value ≤ℤ number_of span.greatest)
StandsWithin span (text bytes) = Unit {0}

pub record IsSpanOf (cells : List Datum) (span : Span) : Type 0 where
  pub least : Contains cells (typed span.least)
  pub greatest : Contains cells (typed span.greatest)
  pub within : All (StandsWithin span) cells

-- both are values of cells, with all others between them, and there are none where there is no value
abbrev pub SpansAreExact : Type 0
SpansAreExact = (cells : List Datum) → MatchOption (span_of cells) (All HasNoValue cells) (IsSpanOf cells)

-- ---- the shortest and the longest text

abbrev pub HasNoText : Datum → Type 0
HasNoText null = Unit {0}
HasNoText (typed value) = Unit {0}
HasNoText (text bytes) = ⊥

-- a text of this length stands among cells
abbrev pub HasTextOf : List Datum → ℕ → Type 0
HasTextOf cells n = (bytes : List ℕ) × (Contains cells (text bytes)) × (length bytes ≡ n)

-- a text is neither shorter than the shortest nor longer than the longest one
abbrev pub MeasuresWithin : Lengths → Datum → Type 0
MeasuresWithin lengths null = Unit {0}
MeasuresWithin lengths (typed value) = Unit {0}
MeasuresWithin lengths (text bytes) = (lengths.shortest ≤ length bytes) × (length bytes ≤ lengths.longest)

pub record AreLengthsOf (cells : List Datum) (lengths : Lengths) : Type 0 where
  pub shortest : HasTextOf cells lengths.shortest
  pub longest : HasTextOf cells lengths.longest
  pub within : All (MeasuresWithin lengths) cells

-- both are lengths of texts, in bytes, with all others between them, and there are none where there is no text
abbrev pub LengthsAreExact : Type 0
LengthsAreExact = (cells : List Datum) → MatchOption (lengths_of cells) (All HasNoText cells) (AreLengthsOf cells)

-- ---- different values

-- none is the same as one before it
abbrev pub AreApart : {A : Type 0} → (A → A → Bool) → List A → Type 0
AreApart {A} same xs = (i j : ℕ) (d : A) → i < j → j < length xs → same (slice_index_or xs j d) (slice_index_or xs i d) ≡ false

-- a value or a text is the same as one of those that are kept
abbrev pub IsAmong : Apart → Datum → Type 0
IsAmong apart null = Unit {0}
IsAmong apart (typed value) = list_any (same_value value) apart.values ≡ true
IsAmong apart (text bytes) = list_any (bytes_eq bytes) apart.texts ≡ true

pub record IsApartOf (cells : List Datum) (apart : Apart) : Type 0 where
  pub whole : All (IsAmong apart) cells
  pub values_found : All (λ value. Contains cells (typed value)) apart.values
  pub texts_found : All (λ bytes. Contains cells (text bytes)) apart.texts
  pub values_apart : AreApart same_value apart.values
  pub texts_apart : AreApart bytes_eq apart.texts

-- each is that of a cell, no two are the same, and none is left out
abbrev pub DifferentAreKeptOnce : Type 0
DifferentAreKeptOnce = (cells : List Datum) → IsApartOf cells (apart_in cells)

-- ---- rows in portions

-- rows that are taken in and rows behind them are taken in as one
abbrev pub PortionsCompose : Type 0
PortionsCompose = (first middle last : ProfileView) (xs ys : List (List Datum)) → Continues first xs middle → Continues middle ys last → Continues first (xs ++ ys) last

-- the profile of rows that were taken in in two portions is that of all
abbrev pub PortionsMakeAll : Type 0
PortionsMakeAll = (tys : List ColumnType) (middle last : ProfileView) (xs ys : List (List Datum))
    → Continues (profile_of tys []) xs middle → Continues middle ys last → last ≡ profile_of tys (xs ++ ys)
