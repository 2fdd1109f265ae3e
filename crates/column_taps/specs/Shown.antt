-- What a tap does with rows that it is shown at once.
use Rattle.std.specs.Prelude.{◌≡◌, ℕ, suc, ◌+◌, ◌*◌, ◌<◌, ◌≤◌, ◌^◌, List, [], ◌∷◌, length, take, Option, Some, None, Result, Ok, Err, ⊤}
use Rattle.csv_source.specs.declared.bytes.NoMemory.{NoMemory}
use Rattle.value_types.specs.Datum.{Datum}
use Rattle.column_taps.specs.Seen.{Seen, counted, spanned, measured, told_apart, step}
use Rattle.column_taps.specs.Course.{Course, going, over_at}

-- how many rows went, up to the first that is over, and what is seen after them
abbrev pub one_row_more : ℕ × Seen → ℕ × Seen
one_row_more shown = (suc shown.0, shown.1)

abbrev pub shown_rows : Seen → List (List Datum) → ℕ × Seen
shown_rows seen [] = (0, seen)
shown_rows seen (row ∷ rows) = elim (step seen row) [ Some after ↦ one_row_more (shown_rows after rows) | None ↦ (0, seen) ]

-- some first rows have gone, none of which was over
abbrev pub HaveGone : Seen → List (List Datum) → Seen → Type 0
HaveGone old rows new = (count : ℕ) × (count ≤ length rows) × ((count, new) ≡ shown_rows old (take count rows))

-- what was seen before, the rows, the answer, and what is seen after them; none have gone where the tap doesn't take
-- them at once, and some first ones where there was no memory
abbrev pub ShownAs : Seen → List (List Datum) → Result (Option ℕ) NoMemory → Seen → Type 0
ShownAs old rows (Ok None) new = new ≡ old
ShownAs old rows (Ok (Some count)) new = (count, new) ≡ shown_rows old rows
ShownAs old rows (Err e) new = HaveGone old rows new

-- the same of rows that are shown one after another
abbrev pub ShownEachAs : Seen → List (List Datum) → Result ℕ NoMemory → Seen → Type 0
ShownEachAs old rows (Ok count) new = (count, new) ≡ shown_rows old rows
ShownEachAs old rows (Err e) new = HaveGone old rows new

-- the counts can grow by so many rows of so many cells
abbrev pub HasRoomForRows : ℕ → ℕ → Seen → Type 0
HasRoomForRows count width (counted rows cells) = (rows + count < 2 ^ 62) × (cells + count * width < 2 ^ 62)
HasRoomForRows count width (spanned extents) = ⊤
HasRoomForRows count width (measured widths) = ⊤
HasRoomForRows count width (told_apart most pairs) = ⊤

-- a tap that goes on can grow by them
abbrev pub MayGoOn : ℕ → ℕ → Course → Type 0
MayGoOn count width (going seen) = HasRoomForRows count width seen
MayGoOn count width (over_at row) = ⊤
