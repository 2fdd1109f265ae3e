-- The lines of a file's parts (this loader's profile).
use Rattle.std.specs.Prelude.{ℕ, ◌+◌, ◌-◌, true, List, [], ◌∷◌, ◌++◌, length, map, codes}
use Rattle.std.specs.Fmt.{decimal}
use Rattle.std.specs.Str.{byte}
use Rattle.csv_source.specs.Line.{line_of}
use Rattle.csv_source.specs.Shown.{shown}
use Rattle.part_cuts.specs.declared.part.Part.{Part}
use Rattle.part_cuts.specs.declared.tally.Tally.{Tally}
use Rattle.part_cuts.specs.Part.{parts}
use Rattle.part_cuts.specs.Reading.{Reading}
use Rattle.csv_sniffer.specs.declared.found.Sniffed.{Sniffed}
use Rattle.report_text.specs.ExplainedLines.{fixing_words}

-- the words of each part: those that fix what was found, and further ones
abbrev pub part_words_line : Sniffed → List (List ℕ) → List ℕ
part_words_line s further = line_of (fixing_words true s ++ map shown further)

-- a further word with a bar before it
abbrev pub further_word : List ℕ → List ℕ
further_word word = byte "|" ∷ shown word

-- how many bytes and physical lines the head has, which lies before the first part
abbrev pub head_line : Part → List ℕ
head_line first = line_of (codes "head" ∷ decimal first.byte ∷ decimal (first.line - 1) ∷ [])

abbrev pub head_lines : List Part → List ℕ
head_lines [] = []
head_lines (first ∷ further) = head_line first

-- number, place, length, line and rows of a part
abbrev pub part_line : ℕ → Part → List ℕ
part_line number part = line_of
    (codes "part" ∷ decimal number ∷ decimal part.byte ∷ decimal part.len ∷ decimal part.line ∷ decimal part.rows ∷ [])

-- one line for each part from a number on
abbrev pub part_lines_from : ℕ → List Part → List ℕ
part_lines_from number [] = []
part_lines_from number (part ∷ further) = part_line number part ++ part_lines_from (number + 1) further

-- how many parts there are; how many bytes and physical line ends the file has, and how many rows all parts
abbrev pub parts_line : ℕ → Tally → List ℕ
parts_line count end = line_of (codes "parts" ∷ decimal count ∷ decimal end.bytes ∷ decimal end.lines ∷ decimal end.rows ∷ [])

-- the head, the parts and their number, where the file ends behind the bytes so far
abbrev pub cut_lines : Reading → List ℕ
cut_lines r = let all = parts r.starts r.tally in head_lines all ++ part_lines_from 0 all ++ parts_line (length all) r.tally

-- the words of each part, and where the parts begin
abbrev pub split_lines : Sniffed → List (List ℕ) → Reading → List ℕ
split_lines s further cuts = part_words_line s further ++ cut_lines cuts
