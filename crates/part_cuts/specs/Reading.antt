-- The one-pass reading of a file's data, byte by byte, which tells where its parts begin.
use Rattle.std.specs.Prelude.{ℕ, ◌+◌, Bool, ◌&&◌, List, [], ◌∷◌, ◌++◌, Option, None, Some, if◌then◌else◌, nat_lt, not}
use Rattle.byte_classes.specs.Class.{class_of}
use Rattle.byte_classes.specs.LineEnds.{ends_physical_line}
use Rattle.quote_automaton.specs.declared.state.State.{State}
use Rattle.quote_automaton.specs.declared.state.State.TheVariants.{RowStart}
use Rattle.quote_automaton.specs.Automaton.{step}
use Rattle.part_cuts.specs.declared.cut_rule.CutRule.{CutRule}
use Rattle.part_cuts.specs.declared.tally.Tally.{Tally}
use Rattle.part_cuts.specs.Cut.{counts_row, is_cut, multiple_behind}

-- what is known behind the bytes so far: by what the file is cut; the state in which the next byte is read, and the byte before it in the
-- data; what lies before it; the multiple of the size at or behind which the next cut begins a part; and where parts begin so far
pub record Reading : Type 0 where
  pub rule : CutRule
  pub state : State
  pub before : Option ℕ
  pub tally : Tally
  pub due : ℕ
  pub starts : List Tally

-- a part begins here: the next one begins at the first cut at or behind the next multiple of the size
abbrev pub begun : Reading → Reading
begun r = record r { due = multiple_behind r.rule.size r.tally.bytes; starts = r.starts ++ r.tally ∷ [] }

-- the data begin behind a head of so many bytes and physical line ends, and with them the first part
abbrev pub reading_from : CutRule → ℕ → ℕ → Reading
reading_from rule bytes lines =
    begun (record { rule = rule; state = RowStart; before = None; tally = record { bytes = bytes; lines = lines; rows = 0 }; due = 0; starts = [] })

-- what lies behind a byte
abbrev pub tally_behind : Reading → ℕ → Tally
tally_behind r b = record {
  bytes = r.tally.bytes + 1;
  lines = r.tally.lines + (if ends_physical_line r.before b then 1 else 0);
  rows = r.tally.rows + (if counts_row r.rule.columns r.state (class_of r.rule.dialect b) then 1 else 0);
}

-- a byte is read
abbrev pub behind : Reading → ℕ → Reading
behind r b = record r { state = step r.rule.dialect r.state b; before = Some b; tally = tally_behind r b }

-- whether a part begins at the front of the bytes: at a cut at or behind the multiple
abbrev pub begins_part : Reading → List ℕ → Bool
begins_part r bytes = is_cut r.rule.dialect r.state bytes && not (nat_lt r.tally.bytes r.due)

-- the reading goes on over bytes, behind which others are seen
abbrev pub reading : Reading → List ℕ → List ℕ → Reading
reading r [] seen = r
reading r (b ∷ bytes) seen = reading (behind (if begins_part r (b ∷ (bytes ++ seen)) then begun r else r) b) bytes seen
