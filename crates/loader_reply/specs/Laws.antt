-- The laws of the one-pass reading, which is the part of the whole data, whose place never parts a CR LF pair.
use Rattle.std.specs.Prelude.{◌≡◌, ℕ, ◌+◌, ◌<◌, true, false, List, [], ◌∷◌, ◌++◌, length, take, drop, map, flat_map, codes, Option, None, Some, option_map, slice_get, Ok}
use Rattle.byte_classes.specs.Dialect.{Marks}
use Rattle.byte_classes.specs.LineEnds.{line_ends}
use Rattle.quote_automaton.specs.declared.state.State.TheVariants.{RowStart}
use Rattle.value_types.specs.Datum.{Datum}
use Rattle.load_options.specs.declared.options.Options.{Options}
use Rattle.load_options.specs.declared.options.Request.{Request}
use Rattle.reject_book.specs.declared.reject.Reject.{Reject}
use Rattle.reject_book.specs.declared.reject.Schema.{Schema}
use Rattle.reject_book.specs.Judging.{judge_of}
use Rattle.reject_book.specs.Kept.{book_of, raised}
use Rattle.reject_book.specs.Verdict.{Verdict}
use Rattle.range_scan.specs.Part.{Part, part_of, join, is_bad}
use Rattle.load_crew.specs.GroupPlan.{group_read}
use Rattle.load_crew.specs.Groups.{shared_groups, group_of, groups_read, groups_part}
use Rattle.csv_source.specs.Line.{line_of}
use Rattle.csv_source.specs.Shown.{shown}
use Rattle.report_text.specs.Lines.{error_line}
use Rattle.csv_writer.specs.WrittenRejects.{reject_fields}
use Rattle.csv_sniffer.specs.declared.found.Sniffed.{Sniffed}
use Rattle.csv_sniffer.specs.Input.{found, data_place, place_under}
use Rattle.csv_sniffer.specs.Pairs.{parts_pair}
use Rattle.column_taps.specs.Seen.{Seen}
use Rattle.load_options.specs.Accepted.{IsAccepted}
use Rattle.csv_sniffer.specs.Fixed.{fixed, fixes_types}
use Rattle.csv_sniffer.specs.Laws.{listed}
use Rattle.csv_sniffer.specs.NamedTypes.{missing_name, type_given}
use Rattle.value_types.specs.declared.types.ColumnType.{ColumnType}
use Rattle.loader_reply.specs.declared.answering.Answer.{Answer}
use Rattle.loader_reply.specs.Batch.{batch_error, batch_of, batch_stats, found_in_first}
use Rattle.loader_reply.specs.Reply.{Reply, inputs_reply, words_reply}
use Rattle.loader_reply.specs.Reading.{schema_of, verdicts, reading, file_reading, table_rows, faults, keep_of, ending_error, stats_of}

-- the part of all data of the file of a number, which begin at a place of the input
abbrev pub data_part : ℕ → Marks → Schema → List ℕ → ℕ → Part (List Datum) Reject
data_part file_id d schema input start = part_of (judge_of d schema 0 file_id) d (drop start input) start 0 (length (drop start input)) RowStart

-- verdicts have the cells of a part, and its faults with their lines raised
pub record AreOfPart (vs : List (Verdict (List Datum) Reject)) (lines : ℕ) (part : Part (List Datum) Reject) : Type 0 where
  pub rows : table_rows vs ≡ part.cells
  pub faults : faults vs ≡ map (raised lines) part.faults

-- the verdicts of data that don't part a pair are those of their part, after the line ends before the data
abbrev pub VerdictsAreOfPart : Type 0
VerdictsAreOfPart = (file_id : ℕ) (d : Marks) (schema : Schema) (input : List ℕ) (start : ℕ) → parts_pair input start ≡ false →
    AreOfPart (verdicts file_id d schema input start) (line_ends None (take start input)) (data_part file_id d schema input start)

-- under what is found in an input the reading of the first file is its reading
abbrev pub OwnReading : Type 0
OwnReading = (o : Options) (input : List ℕ) → file_reading o (found o input) 0 input ≡ reading o input

-- a batch of one input is its reading, with its first error and its stats
pub record IsReadAlone (o : Options) (name input : List ℕ) : Type 0 where
  pub batch : batch_of o (found o input) (name ∷ []) (input ∷ []) ≡ record {
    types = (found o input).types;
    rows = table_rows (reading o input);
    files = record { name = name; book = book_of (keep_of o) (faults (reading o input)) } ∷ [];
  }
  pub error : batch_error o (found o input) (input ∷ []) ≡ ending_error o (faults (reading o input))
  pub stats : batch_stats o (found o input) (input ∷ []) ≡ stats_of o (found o input).dialect (drop (data_place o input (found o input)) input)

abbrev pub OneIsReadAlone : Type 0
OneIsReadAlone = (o : Options) (name input : List ℕ) → IsReadAlone o name input

-- the reading of an input, under what was found in it or in another one, is the part of its data
abbrev pub ReadingIsOfPart : Type 0
ReadingIsOfPart = (o : Options) (s : Sniffed) (file_id : ℕ) (input : List ℕ) → let start = place_under o s input in
    AreOfPart (file_reading o s file_id input) (line_ends None (take start input)) (data_part file_id s.dialect (schema_of o s) input start)

-- the reading of an input is what its groups are read as, one after another without a stop
abbrev pub ReadingIsOfGroups : Type 0
ReadingIsOfGroups = (o : Options) (s : Sniffed) (file_id : ℕ) (input : List ℕ) → 0 < o.range_size →
    let start = place_under o s input in let bytes = drop start input in
    AreOfPart (file_reading o s file_id input) (line_ends None (take start input))
    (groups_read (judge_of s.dialect (schema_of o s) 0 file_id) raised s.dialect bytes start o.range_size false (shared_groups (length bytes) o.range_size))

-- where a group that is read with a stop has a fault, the first fault of it and the groups before it is the first fault of the reading
abbrev pub StopFindsFirstFault : Type 0
StopFindsFirstFault = (o : Options) (s : Sniffed) (file_id : ℕ) (input : List ℕ) → 0 < o.range_size → (k : ℕ) (before read : Part (List Datum) Reject) →
    let start = place_under o s input in let bytes = drop start input in let judge = judge_of s.dialect (schema_of o s) 0 file_id in
    before ≡ groups_part judge s.dialect bytes start o.range_size k →
    read ≡ group_read judge raised s.dialect bytes start (group_of (length bytes) o.range_size k) before.end true →
    is_bad read ≡ true →
    slice_get (faults (file_reading o s file_id input)) 0 ≡ option_map (raised (line_ends None (take start input))) (slice_get (join raised before read).faults 0)

-- the faults of joined parts after some lines: those of the second come after the line ends of the first too
abbrev pub JoinedFaultsAreRaised : Type 0
JoinedFaultsAreRaised = (lines : ℕ) (a b : Part (List Datum) Reject) →
    map (raised lines) (join raised a b).faults ≡ map (raised lines) a.faults ++ map (raised (lines + a.line_ends)) b.faults

-- ---- several files

-- the rows of several files under what was found in one of them are those of each, loaded with that given, where its types can be
abbrev pub RowsAreOfEach : Type 0
RowsAreOfEach = (o : Options) (first : List ℕ) (names inputs : List (List ℕ)) → IsAccepted o → let s = found o first in fixes_types o s ≡ true →
    (batch_of o s names inputs).rows ≡ flat_map (λ input. table_rows (reading (fixed o s) input)) inputs

-- ---- answers

-- two replies end alike, with the same text
pub record IsSameReply (r q : Reply) : Type 0 where
  pub status : r.status ≡ q.status
  pub text : r.text ≡ q.text

-- with what was found given, files are answered alike
abbrev pub FixedHasSameReply : Type 0
FixedHasSameReply = (answer : Answer) (o : Options) (names : List (List ℕ)) (taps : List Seen) (inputs : List (List ℕ)) → IsAccepted o →
    IsSameReply (inputs_reply answer (fixed o (found_in_first o inputs)) names taps inputs) (inputs_reply answer o names taps inputs)

-- where the type of each column is given by its name and no given name is missing, files are answered as under these types in a list, if the first row
-- is taken alike
abbrev pub NamedHasSameReply : Type 0
NamedHasSameReply = (answer : Answer) (o : Options) (names : List (List ℕ)) (taps : List Seen) (inputs : List (List ℕ)) (types : List ColumnType) → IsAccepted o →
    let s = found_in_first o inputs in
    map (type_given o.column_types) s.names ≡ map Some types → missing_name o.column_types s.names ≡ None →
    (found_in_first (listed o types) inputs).header ≡ s.header →
    inputs_reply answer (listed o types) names taps inputs ≡ inputs_reply answer o names taps inputs

-- the reply doesn't hang on the file to which it is written
abbrev pub OutputChangesNoReply : Type 0
OutputChangesNoReply = (request : Request) (output : Option (List ℕ)) (words : List (List ℕ)) (taps : List Seen) (opened : List (Option (List ℕ))) →
    words_reply (Ok (record request { output = output })) words taps opened ≡ words_reply (Ok request) words taps opened

-- ---- rejects as CSV

-- the fields of a reject are those of its line in the report, which shows them
abbrev pub RejectsAreShown : Type 0
RejectsAreShown = (r : Reject) → error_line r ≡ line_of (codes "error" ∷ map shown (reject_fields r))
