-- The parts of a file of which some bytes are held, when it is read to its end.
use Rattle.std.specs.Prelude.{◌≡◌, ℕ, ◌+◌, ◌-◌, ◌≤◌, Bool, true, false, List, [], ◌++◌, length, take, drop, Option, None, Some}
use Rattle.std.specs.Io.KnownBytes.{Consumes, IsAtEnd}
use Rattle.byte_classes.specs.LineEnds.{line_ends}
use Rattle.part_cuts.specs.declared.cut_rule.CutRule.{CutRule}
use Rattle.part_cuts.specs.Laws.{bytes_seen}
use Rattle.part_cuts.specs.Reading.{Reading, reading, reading_from}
use Rattle.part_cuts.specs.Within.{most_bytes}
use Rattle.file_split.specs.declared.file_piece.FilePiece.{FilePiece}

-- the reading of a file whose data begin at a place, before its data
abbrev pub begun_at : CutRule → ℕ → List ℕ → Reading
begun_at rule start input = reading_from rule start (line_ends None (take start input))

-- the reading of the whole file
abbrev pub cuts_of : CutRule → ℕ → List ℕ → Reading
cuts_of rule start input = reading (begun_at rule start input) (drop start input) []

-- all of the file came behind the bytes that are held, nothing where it had ended; it is no longer than it may be, and a fact holds of it
abbrev pub ComesAll : Option (List ℕ) → Option (List ℕ) → FilePiece → ℕ → (List ℕ → Type 0) → Type 0
ComesAll before after held most Holds = (came : List ℕ) × Consumes before after came × IsAtEnd after
    × (held.ended ≡ true → came ≡ []) × (length (held.bytes ++ came) ≤ most) × Holds (held.bytes ++ came)

-- the file is longer than it may be, and one byte over the limit came
abbrev pub ComesMore : Option (List ℕ) → Option (List ℕ) → FilePiece → ℕ → Type 0
ComesMore before after held most = (came : List ℕ) × Consumes before after came × (length (held.bytes ++ came) ≡ most + 1)

-- how many bytes of a piece go through the cuts, where more come behind it
abbrev pub bytes_passed : List ℕ → ℕ
bytes_passed bytes = length bytes - bytes_seen

-- whether all bytes behind the tally of a reading came and are read
abbrev pub IsPassed : Option (List ℕ) → Option (List ℕ) → FilePiece → Reading → Reading → Bool → Type 0
IsPassed before after held old new true =
    ComesAll before after held (most_bytes - old.tally.bytes) (λ bytes. new ≡ reading old bytes [])
IsPassed before after held old new false = ComesMore before after held (most_bytes - old.tally.bytes)

-- the parts of the whole file, or none where it is longer than it may be
abbrev pub IsCutFile : Option (List ℕ) → Option (List ℕ) → FilePiece → CutRule → ℕ → Option Reading → Type 0
IsCutFile before after held rule start (Some cuts) = ComesAll before after held most_bytes (λ input. cuts ≡ cuts_of rule start input)
IsCutFile before after held rule start None = ComesMore before after held most_bytes
