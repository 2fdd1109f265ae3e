-- What contracts see of slots.
use Rattle.std.specs.Prelude.{◌≡◌, ℕ, ◌+◌, ◌<◌, ◌≤◌, ◌++◌, List, length, flat_map, map, take, drop, Result, Ok, Err}
use Rattle.csv_source.specs.declared.bytes.NoMemory.{NoMemory}
use Rattle.value_types.specs.Datum.{Datum}
use Rattle.column_taps.specs.declared.slot.Slot.{Slot}
use Rattle.column_taps.specs.declared.slot.Slot.TheVariants.{Live, Over}
use Rattle.column_taps.specs.Seen.{Seen}
use Rattle.column_taps.specs.Course.{Course, going, over_at, course_next, course_after, course_lines}

-- where the course of the tap that was put into a slot has come to
module _ {D : Type 0} {H : D → Type 0} (seen : (d : D) → H d → Seen) where
  abbrev pub course_in : Slot D H → Course
  course_in (Live tap) = going (seen tap.vtable tap.value)
  course_in (Over row) = over_at row

-- the first courses have taken a row, and the others are as before
abbrev pub fed_first : ℕ → ℕ → List Datum → List Course → List Course
fed_first count number row courses = map (λ c. course_next number c row) (take count courses) ++ drop count courses

-- all courses have taken a row; where there was no memory, some first ones, and not the one behind them
abbrev pub FedAs : ℕ → List Datum → List Course → Result (Unit {0}) NoMemory → List Course → Type 0
FedAs number row old (Ok u) new = new ≡ map (λ c. course_next number c row) old
FedAs number row old (Err e) new = (count : ℕ) × (count < length old) × (new ≡ fed_first count number row old)

-- a course has taken rows, of which the first has the number; where there was no memory, some first ones
abbrev pub FedSlotAs : ℕ → List (List Datum) → Course → Result (Unit {0}) NoMemory → Course → Type 0
FedSlotAs number rows old (Ok u) new = new ≡ course_after number old rows
FedSlotAs number rows old (Err e) new = (some : ℕ) × (some ≤ length rows) × (new ≡ course_after number old (take some rows))

-- the first courses have taken rows, the one behind them some first rows, and the others are as before
abbrev pub fed_rows_first : ℕ → ℕ → ℕ → List (List Datum) → List Course → List Course
fed_rows_first count some number rows courses =
    map (λ c. course_after number c rows) (take count courses) ++ (map (λ c. course_after number c (take some rows)) (take 1 (drop count courses)) ++ drop (count + 1) courses)

-- all courses have taken rows, of which the first has the number; where there was no memory, some first ones, and one
-- more some first rows
abbrev pub FedRowsAs : ℕ → List (List Datum) → List Course → Result (Unit {0}) NoMemory → List Course → Type 0
FedRowsAs number rows old (Ok u) new = new ≡ map (λ c. course_after number c rows) old
FedRowsAs number rows old (Err e) new = (count : ℕ) × (some : ℕ) × (count < length old) × (some ≤ length rows) × (new ≡ fed_rows_first count some number rows old)

-- the lines of all courses stand behind what was there; where there was no memory, those of some first ones
abbrev pub WrittenAs : List Course → List ℕ → Result (Unit {0}) NoMemory → List ℕ → Type 0
WrittenAs courses old (Ok u) new = new ≡ old ++ flat_map course_lines courses
WrittenAs courses old (Err e) new = (count : ℕ) × (count < length courses) × (new ≡ old ++ flat_map course_lines (take count courses))
