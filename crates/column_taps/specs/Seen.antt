-- What taps have seen of rows.
use Rattle.std.specs.Prelude.{◌≡◌, ℕ, ◌+◌, ◌<◌, ◌^◌, max, List, [], ◌∷◌, length, Option, Some, None, if◌then◌else◌, nat_le, count_by, Bool, true, false, ⊤}
use Rattle.value_types.specs.Datum.{Datum, null, typed, text}
use Rattle.value_types.specs.Extent.{extent_with}
use Rattle.column_taps.specs.Pairs.{Pair, pairs_with}
use Rattle.column_taps.specs.declared.kind.TapKind.{TapKind}
use Rattle.column_taps.specs.declared.kind.TapKind.TheVariants as kinds
use Rattle.value_types.specs.declared.extent.Extent.{Extent}
use Rattle.column_taps.specs.declared.width.Width.{Width}

-- how many rows and how many cells that aren't null; of each column its extent, where it had a number; of each column its width, where it had a text; the most that may be different, and the different texts with their columns, in order of first coming
pub data Seen : Type 0 where
  counted : ℕ → ℕ → Seen
  spanned : List (Option Extent) → Seen
  measured : List (Option Width) → Seen
  told_apart : ℕ → List Pair → Seen

-- the kind of the tap that has seen it
abbrev pub kind_of : Seen → TapKind
kind_of (counted rows cells) = kinds.Count
kind_of (spanned extents) = kinds.Span
kind_of (measured widths) = kinds.Width
kind_of (told_apart most pairs) = kinds.Distinct most

-- what a tap of a kind has seen before any row
abbrev pub nothing_seen : TapKind → Seen
nothing_seen kinds.Count = counted 0 0
nothing_seen kinds.Span = spanned []
nothing_seen kinds.Width = measured []
nothing_seen (kinds.Distinct most) = told_apart most []

-- whether a cell isn't null
abbrev pub is_filled : Datum → Bool
is_filled null = false
is_filled (typed value) = true
is_filled (text bytes) = true

-- the greater of a width so far and another
abbrev pub wider : Option Width → ℕ → Option Width
wider None n = Some (record { bytes = n })
wider (Some width) n = Some (record { bytes = max width.bytes n })

-- a width with a cell of its column: texts alone count, also empty ones
abbrev pub width_with : Option Width → Datum → Option Width
width_with width null = width
width_with width (typed value) = width
width_with width (text bytes) = wider width (length bytes)

-- what is known of each column, with what a row has there added; of a column that is new nothing was known
abbrev pub by_column : {S C : Type 0} → (Option S → C → Option S) → List (Option S) → List C → List (Option S)
by_column add known [] = known
by_column add [] (cell ∷ cells) = add None cell ∷ by_column add [] cells
by_column add (k ∷ known) (cell ∷ cells) = add k cell ∷ by_column add known cells

-- what is seen with one row more, or none where the tap is over
abbrev pub step : Seen → List Datum → Option Seen
step (counted rows cells) row = Some (counted (rows + 1) (cells + count_by is_filled row))
step (spanned extents) row = Some (spanned (by_column extent_with extents row))
step (measured widths) row = Some (measured (by_column width_with widths row))
step (told_apart most pairs) row = if nat_le (length (pairs_with 0 pairs row)) most then Some (told_apart most (pairs_with 0 pairs row)) else None

-- the counts can grow
abbrev pub HasRoom : Seen → Type 0
HasRoom (counted rows cells) = (rows < 2 ^ 62) × (cells < 2 ^ 62)
HasRoom (spanned extents) = ⊤
HasRoom (measured widths) = ⊤
HasRoom (told_apart most pairs) = ⊤

-- nothing is seen yet
abbrev pub IsFresh : Seen → Type 0
IsFresh seen = seen ≡ nothing_seen (kind_of seen)
