-- The laws of the parts of a file: what is read of each alone, behind the file's head, is what the file has there.
use Rattle.std.specs.Prelude.{◌≡◌, ℕ, ◌+◌, ◌-◌, Bool, true, false, Some, All, filter, List, [], ◌++◌, length, take, drop, map, flat_map, None, slice_range}
use Rattle.std.specs.List.{last_or}
use Rattle.byte_classes.specs.Dialect.{Marks}
use Rattle.byte_classes.specs.LineEnds.{line_ends}
use Rattle.quote_automaton.specs.declared.state.State.TheVariants.{RowStart}
use Rattle.quote_automaton.specs.Automaton.{state_after}
use Rattle.part_cuts.specs.declared.cut_rule.CutRule.{CutRule}
use Rattle.part_cuts.specs.declared.part.Part.{Part}
use Rattle.part_cuts.specs.Cut.{is_cut}
use Rattle.part_cuts.specs.Part.{parts}
use Rattle.part_cuts.specs.Reading as cuts
use Rattle.value_types.specs.Datum.{Datum}
use Rattle.reject_book.specs.declared.reject.Reject.{Reject}
use Rattle.reject_book.specs.declared.reject.Schema.{Schema}
use Rattle.reject_book.specs.Verdict.{Verdict, Blank, Good, Faulty, map_faults}
use Rattle.load_options.specs.declared.options.Options.{Options}
use Rattle.load_options.specs.Accepted.{IsAccepted}
use Rattle.dialect_rank.specs.Candidates.{with_dialect}
use Rattle.csv_sniffer.specs.declared.found.Sniffed.{Sniffed}
use Rattle.csv_sniffer.specs.Input.{found, data_place}
use Rattle.csv_sniffer.specs.Pairs.{parts_pair}
use Rattle.loader_reply.specs.Reading.{reading, schema_of, verdicts, table_rows, faults}

-- a fault of a part as a fault of its file, in which the part stands so many physical lines and bytes further on
abbrev pub placed : ℕ → ℕ → Reject → Reject
placed lines bytes reject = record reject {
  line = lines + reject.line;
  line_byte_position = bytes + reject.line_byte_position;
  byte_position = bytes + reject.byte_position;
}

abbrev pub all_placed : ℕ → ℕ → List (Verdict (List Datum) Reject) → List (Verdict (List Datum) Reject)
all_placed lines bytes vs = map (map_faults (placed lines bytes)) vs

-- behind a head, data that are cut are read as what stands before the cut and what stands behind it, each alone behind the head
abbrev pub CutsAreReadAlone : Type 0
CutsAreReadAlone = (file_id : ℕ) (d : Marks) (schema : Schema) (head front back : List ℕ) → is_cut d (state_after d RowStart front) back ≡ true →
    verdicts file_id d schema (head ++ (front ++ back)) (length head)
    ≡ verdicts file_id d schema (head ++ front) (length head)
    ++ all_placed (line_ends (last_or None head) front) (length front) (verdicts file_id d schema (head ++ back) (length head))

-- ---- all parts

-- the parts of the data behind a head
abbrev pub parts_of : CutRule → List ℕ → List ℕ → List Part
parts_of rule head text = let r = cuts.reading (cuts.reading_from rule (length head) (line_ends None head)) text [] in parts r.starts r.tally

-- the bytes of a part of an input
abbrev pub part_bytes : List ℕ → Part → List ℕ
part_bytes input part = slice_range input part.byte (part.byte + part.len)

-- how many physical lines and bytes further on the part stands in the input than behind the head
abbrev pub lines_before : List ℕ → Part → ℕ
lines_before head part = part.line - 1 - line_ends None head

abbrev pub bytes_before : List ℕ → Part → ℕ
bytes_before head part = part.byte - length head

-- what is read of a part alone, behind the head, with its faults where they stand in the input
abbrev pub part_verdicts : ℕ → Marks → Schema → List ℕ → List ℕ → Part → List (Verdict (List Datum) Reject)
part_verdicts file_id d schema head input part =
    all_placed (lines_before head part) (bytes_before head part) (verdicts file_id d schema (head ++ part_bytes input part) (length head))

-- behind a head with which no CR LF is cut, what is read of the data is what is read of each part alone
abbrev pub PartsAreReadAlone : Type 0
PartsAreReadAlone = (file_id : ℕ) (rule : CutRule) (schema : Schema) (head text : List ℕ) → parts_pair (head ++ text) (length head) ≡ false →
    verdicts file_id rule.dialect schema (head ++ text) (length head)
    ≡ flat_map (part_verdicts file_id rule.dialect schema head (head ++ text)) (parts_of rule head text)

-- ---- the parts of an input

-- what stands before the data of an input, and the data
abbrev pub head_of : Options → List ℕ → List ℕ
head_of o input = take (data_place o input (found o input)) input

abbrev pub data_of : Options → List ℕ → List ℕ
data_of o input = drop (data_place o input (found o input)) input

-- by what the data are cut
abbrev pub rule_of : Sniffed → ℕ → CutRule
rule_of s size = record { dialect = s.dialect; size = size; columns = length s.types }

abbrev pub input_parts : Options → List ℕ → ℕ → List Part
input_parts o input size = parts_of (rule_of (found o input) size) (head_of o input) (data_of o input)

-- the rows of an input are those that are read of its parts, end to end, and so are its faults, each where it stands in the input
pub record AreOfParts (o : Options) (input : List ℕ) (all : List Part) (read : Part → List (Verdict (List Datum) Reject)) : Type 0 where
  pub rows : table_rows (reading o input) ≡ flat_map (λ part. table_rows (read part)) all
  pub faults : faults (reading o input) ≡ flat_map (λ part. map (placed (lines_before (head_of o input) part) (bytes_before (head_of o input) part)) (faults (read part))) all

-- an input is read part by part, each alone behind the head, under what is found in the input
abbrev pub InputsAreReadByParts : Type 0
InputsAreReadByParts = (o : Options) (input : List ℕ) (size : ℕ) → let s = found o input in let head = head_of o input in
    AreOfParts o input (input_parts o input size) (λ part. verdicts 0 s.dialect (schema_of o s) (head ++ part_bytes input part) (length head))

-- ---- the parts of an input, each loaded alone

-- the options under which a part is loaded alone: dialect, header and types as found in the input, and no types by name
abbrev pub alone : Options → Sniffed → Options
alone o s = record (with_dialect o s.dialect) { header = Some s.header; types = s.types; column_types = record { names = []; types = [] }; all_varchar = false }

-- in a text behind a head the same dialect, names and types are found, and its data begin behind the head
pub record IsFoundBehind (o : Options) (s : Sniffed) (head text : List ℕ) : Type 0 where
  pub dialect : (found o (head ++ text)).dialect ≡ s.dialect
  pub names : (found o (head ++ text)).names ≡ s.names
  pub types : (found o (head ++ text)).types ≡ s.types
  pub place : data_place o (head ++ text) (found o (head ++ text)) ≡ length head

-- so in each part, as found in the input
abbrev pub PartsAreFoundAlike : Type 0
PartsAreFoundAlike = (o : Options) (input : List ℕ) (size : ℕ) → IsAccepted o → let s = found o input in
    All (λ part. IsFoundBehind (alone o s) s (head_of o input) (part_bytes input part)) (input_parts o input size)

-- the rows of an input are those of its parts, each loaded alone behind the head, end to end, and so are its faults
abbrev pub PartsAreLoadedAlone : Type 0
PartsAreLoadedAlone = (o : Options) (input : List ℕ) (size : ℕ) → IsAccepted o →
    AreOfParts o input (input_parts o input size) (λ part. reading (alone o (found o input)) (head_of o input ++ part_bytes input part))

-- the first faults of an input need no more than the first ones of each part
abbrev pub FirstFaultsAreOfParts : Type 0
FirstFaultsAreOfParts = (o : Options) (input : List ℕ) (size n : ℕ) → IsAccepted o → let head = head_of o input in
    take n (faults (reading o input))
    ≡ take n (flat_map (λ part. map (placed (lines_before head part) (bytes_before head part)) (take n (faults (reading (alone o (found o input)) (head ++ part_bytes input part)))))
    (input_parts o input size))

-- whether a row has a verdict, good or faulty
abbrev pub is_judged : Verdict (List Datum) Reject → Bool
is_judged Blank = false
is_judged (Good cells) = true
is_judged (Faulty rejects) = true

-- so many rows of each part have one as the part says
abbrev pub PartRowsAreCounted : Type 0
PartRowsAreCounted = (o : Options) (input : List ℕ) (size : ℕ) → IsAccepted o →
    All (λ part. part.rows ≡ length (filter is_judged (reading (alone o (found o input)) (head_of o input ++ part_bytes input part)))) (input_parts o input size)
