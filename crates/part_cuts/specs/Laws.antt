-- The laws of readings.
use Rattle.std.specs.Prelude.{◌≡◌, ◌⊎◌, ℕ, ◌+◌, true, List, [], ◌++◌, length, take, All, None, ◌<◌, ◌≤◌}
use Rattle.std.specs.List.{Any}
use Rattle.byte_classes.specs.LineEnds.{line_ends}
use Rattle.quote_automaton.specs.declared.state.State.TheVariants.{RowStart}
use Rattle.quote_automaton.specs.Automaton.{state_after}
use Rattle.part_cuts.specs.declared.cut_rule.CutRule.{CutRule}
use Rattle.part_cuts.specs.declared.tally.Tally.{Tally}
use Rattle.part_cuts.specs.Cut.{is_cut, multiple_behind}
use Rattle.part_cuts.specs.Passed.{rows_begun}
use Rattle.part_cuts.specs.Reading.{Reading, reading, reading_from}

-- how many bytes behind those that are read have to be seen: those that a byte order mark has behind its first one
abbrev pub bytes_seen : ℕ
bytes_seen = 2

-- pieces that are read one after another, each with the bytes behind it in sight, are read as one
abbrev pub PiecesAddUp : Type 0
PiecesAddUp = (r : Reading) (xs ys seen front : List ℕ) → take bytes_seen front ≡ take bytes_seen (ys ++ seen) →
    reading (reading r xs front) ys seen ≡ reading r (xs ++ ys) seen

-- what lies behind a head of so many bytes and line ends, and behind some of the data
abbrev pub tally_of : CutRule → ℕ → ℕ → List ℕ → Tally
tally_of rule bytes lines front = record { bytes = bytes + length front; lines = lines + line_ends None front; rows = rows_begun rule.dialect rule.columns RowStart front }

-- all bytes, physical line ends and rows of the data are counted, wherever parts begin
abbrev pub AllIsCounted : Type 0
AllIsCounted = (rule : CutRule) (bytes lines : ℕ) (text : List ℕ) → (reading (reading_from rule bytes lines) text []).tally ≡ tally_of rule bytes lines text

-- a part begins where the data begin or at a cut, and what lies before it is counted
pub record IsPartStart (rule : CutRule) (bytes lines : ℕ) (text : List ℕ) (t : Tally) : Type 0 where
  pub front : List ℕ
  pub back : List ℕ
  pub whole : text ≡ front ++ back
  pub tally : t ≡ tally_of rule bytes lines front
  pub cut : (front ≡ []) ⊎ (is_cut rule.dialect (state_after rule.dialect RowStart front) back ≡ true)

-- so does each part
abbrev pub PartsBeginAtCuts : Type 0
PartsBeginAtCuts = (rule : CutRule) (bytes lines : ℕ) (text : List ℕ) → All (IsPartStart rule bytes lines text) (reading (reading_from rule bytes lines) text []).starts

-- a start at or before a place, its next multiple behind the place
abbrev pub Covers : ℕ → ℕ → Tally → Type 0
Covers size place t = (t.bytes ≤ place) × (place < multiple_behind size t.bytes)

-- no cut is missed: up to each cut no multiple lies behind the start of its part
abbrev pub NoCutIsMissed : Type 0
NoCutIsMissed = (rule : CutRule) (bytes lines : ℕ) (front back : List ℕ) → 0 < rule.size → is_cut rule.dialect (state_after rule.dialect RowStart front) back ≡ true →
    Any (Covers rule.size (bytes + length front)) (reading (reading_from rule bytes lines) (front ++ back) []).starts
