-- What several files come to, each read under what is found in the first one (this loader's profile).
use Rattle.std.specs.Prelude.{ℕ, ◌+◌, nat_lt, if◌then◌else◌, Bool, List, [], ◌∷◌, length, drop, map, sum, flat_map, Option, Some, None, ◌≡◌, ◌≤◌, IfSome, ⊤}
use Rattle.std.specs.List.{filter_map}
use Rattle.value_types.specs.Datum.{Datum}
use Rattle.load_options.specs.declared.options.Options.{Options}
use Rattle.csv_sniffer.specs.declared.found.Sniffed.{Sniffed}
use Rattle.csv_sniffer.specs.Input.{found, place_under}
use Rattle.reject_book.specs.declared.reject.Reject.{Reject}
use Rattle.reject_book.specs.Kept.{book_of}
use Rattle.reject_book.specs.Verdict.{Verdict}
use Rattle.file_list.specs.BatchView.{BatchView, with_file}
use Rattle.file_list.specs.declared.batch.FileBook.{FileBook}
use Rattle.report_text.specs.Printable.{IsPrintableBatch}
use Rattle.report_text.specs.declared.outcome.Stats.{Stats}
use Rattle.report_text.specs.declared.outcome.Outcome.{Outcome}
use Rattle.report_text.specs.declared.outcome.Outcome.TheVariants as outcomes
use Rattle.loader_reply.specs.Reading.{file_reading, table_rows, faults, keep_of, ending_error, stats_of}
use Rattle.csv_source.specs.Files.{file_of, Opens}
use Rattle.load_options.specs.FileNames.{file_names}
use Rattle.value_types.specs.declared.types.ColumnType.{ColumnType}
use Rattle.loader_reply.specs.declared.batch.Load.{Load}
use Rattle.loader_reply.specs.declared.batch.Load.TheVariants as loads
use Rattle.window_load.specs.declared.data_read.DataRead.{DataRead}
use Rattle.window_load.specs.declared.data_read.WindowRead.{WindowRead}
use Rattle.window_load.specs.declared.data_read.WindowRead.TheVariants as reads
use Rattle.loader_reply.specs.Loading.{is_headed_otherwise, read_stats, IsInput}

-- ---- files that are all there

-- what is found in the first of some inputs
abbrev pub found_in_first : Options → List (List ℕ) → Sniffed
found_in_first o [] = found o []
found_in_first o (input ∷ inputs) = found o input

-- the readings of inputs, whose numbers go on from one
abbrev pub readings_from : Options → Sniffed → ℕ → List (List ℕ) → List (List (Verdict (List Datum) Reject))
readings_from o s file_id [] = []
readings_from o s file_id (input ∷ inputs) = file_reading o s file_id input ∷ readings_from o s (file_id + 1) inputs

-- each name with the book of its reading
abbrev pub books_of : Options → List (List ℕ) → List (List (Verdict (List Datum) Reject)) → List FileBook
books_of o [] readings = []
books_of o (name ∷ names) [] = []
books_of o (name ∷ names) (vs ∷ readings) = record { name = name; book = book_of (keep_of o) (faults vs) } ∷ books_of o names readings

-- the rows of all files in order, and each file with its book
abbrev pub batch_of : Options → Sniffed → List (List ℕ) → List (List ℕ) → BatchView
batch_of o s names inputs = let readings = readings_from o s 0 inputs in
    record { types = s.types; rows = flat_map table_rows readings; files = books_of o names readings }

-- the first error of all files in order, which ends the load unless errors are ignored or stored
abbrev pub batch_error : Options → Sniffed → List (List ℕ) → Option Reject
batch_error o s inputs = ending_error o (flat_map faults (readings_from o s 0 inputs))

-- the stats of two files together
abbrev pub both_stats : Stats → Stats → Stats
both_stats a b = record { ranges = a.ranges + b.ranges; rescans = a.rescans + b.rescans; scanned = a.scanned + b.scanned }

-- the stats of a file's data
abbrev pub file_stats : Options → Sniffed → List ℕ → Stats
file_stats o s input = stats_of o s.dialect (drop (place_under o s input) input)

-- the sums of the files' stats; the ranges begin anew in each file
abbrev pub batch_stats : Options → Sniffed → List (List ℕ) → Stats
batch_stats o s inputs = let stats = map (file_stats o s) inputs in record {
  ranges = sum (map (λ each. each.ranges) stats);
  rescans = sum (map (λ each. each.rescans) stats);
  scanned = sum (map (λ each. each.scanned) stats);
}

-- what inputs come to under what was found in the first one: all of them, or the first error
abbrev pub unless_error : Load → Option Reject → Load
unless_error load None = load
unless_error load (Some reject) = loads.FirstError reject

-- the first of some named inputs that must begin with the header of the first one, and doesn't
abbrev pub other_header_in : Options → Sniffed → List (List ℕ) → List (List ℕ) → Option (List ℕ)
other_header_in o s [] inputs = None
other_header_in o s (name ∷ names) [] = None
other_header_in o s (name ∷ names) (input ∷ inputs) = if is_headed_otherwise o s input then Some name else other_header_in o s names inputs

-- the name of the first later input that begins with another header; that comes before a first error
abbrev pub unless_headed_otherwise : Load → Option (List ℕ) → Load
unless_headed_otherwise load None = load
unless_headed_otherwise load (Some name) = loads.OtherHeader name

abbrev pub load_of : Options → Sniffed → List (List ℕ) → List (List ℕ) → Load
load_of o s names inputs =
    unless_headed_otherwise (unless_error (loads.Whole (batch_of o s names inputs) (batch_stats o s inputs)) (batch_error o s inputs))
    (other_header_in o s (drop 1 names) (drop 1 inputs))

-- ---- files that may not be there, or be too large

-- a file that decides, else those behind it
abbrev pub refused_or : ℕ → Option (List ℕ) → Option Outcome → Option Outcome
refused_or limit None later = Some outcomes.ReadFault
refused_or limit (Some input) later = if nat_lt limit (length input) then Some (outcomes.TooLarge limit) else later

-- the first file, in order, that isn't there or is over the limit
abbrev pub batch_refusal : ℕ → List (Option (List ℕ)) → Option Outcome
batch_refusal limit [] = None
batch_refusal limit (opened ∷ others) = refused_or limit opened (batch_refusal limit others)

-- the input that is read last: the first over the limit, else the last one; none behind a file that isn't there
abbrev pub last_read : ℕ → List (Option (List ℕ)) → Option (List ℕ)
last_read limit [] = None
last_read limit (None ∷ others) = None
last_read limit (Some input ∷ []) = Some input
last_read limit (Some input ∷ (other ∷ others)) = if nat_lt limit (length input) then Some input else last_read limit (other ∷ others)

-- ---- one file

-- a file was opened, and a fact holds of what it had to be read
abbrev pub IsOpened : Option (List (List ℕ × List ℕ)) → List ℕ → (Option (List ℕ) → Type 0) → Type 0
IsOpened held name Holds = (opened : Option (List ℕ)) × Opens held name opened × Holds opened

-- all of a file was read, no more than it may have, and a fact holds of it
abbrev pub IsReadWhole : ℕ → Option (List (List ℕ × List ℕ)) → List ℕ → Option (List ℕ) → (List ℕ → Type 0) → Type 0
IsReadWhole limit held name left Holds = (input : List ℕ) × IsInput limit held name input left × (length input ≤ limit) × Holds input

-- one byte more than it may have was read of a file
abbrev pub IsReadOver : ℕ → Option (List (List ℕ × List ℕ)) → List ℕ → Option (List ℕ) → Type 0
IsReadOver limit held name left = (input : List ℕ) × IsInput limit held name input left × (length input ≡ limit + 1)

-- ---- several files, one after another

-- no files
abbrev pub no_files : List ColumnType → Load
no_files tys = loads.Whole (record { types = tys; rows = []; files = [] }) (record { ranges = 0; rescans = 0; scanned = 0 })

-- all files so far with all of one more
abbrev pub with_read : BatchView → Stats → List ℕ → DataRead → Load
with_read batch stats name read =
    loads.Whole (with_file batch read.joined.table.rows (record { name = name; book = read.joined.book })) (both_stats stats (read_stats read))

-- with what one more file comes to, none where it begins with another header, which stays; a first error stays unless it does
abbrev pub with_load : Load → List ℕ → Option WindowRead → Load
with_load (loads.OtherHeader first) name load = loads.OtherHeader first
with_load (loads.FirstError reject) name None = loads.OtherHeader name
with_load (loads.FirstError reject) name (Some read) = loads.FirstError reject
with_load (loads.Whole batch stats) name None = loads.OtherHeader name
with_load (loads.Whole batch stats) name (Some (reads.Stopped reject)) = loads.FirstError reject
with_load (loads.Whole batch stats) name (Some (reads.All read)) = with_read batch stats name read

-- tables that are joined have the same types
abbrev pub CanJoin : Load → Option WindowRead → Type 0
CanJoin (loads.FirstError reject) load = ⊤
CanJoin (loads.OtherHeader first) load = ⊤
CanJoin (loads.Whole batch stats) None = ⊤
CanJoin (loads.Whole batch stats) (Some (reads.Stopped reject)) = ⊤
CanJoin (loads.Whole batch stats) (Some (reads.All read)) = batch.types ≡ read.joined.table.types

-- the names of a word: several, cut at each comma, or the word itself
abbrev pub names_of : Bool → List ℕ → List (List ℕ)
names_of several word = if several then file_names word else word ∷ []

-- the names of the text behind a comma, where there is one
abbrev pub names_behind : Option (List ℕ) → List (List ℕ)
names_behind None = []
names_behind (Some text) = file_names text

-- what was opened is what the files tell, and what is left is what stands behind the first byte over the limit of the file that was read last
abbrev pub AreOpened : ℕ → Option (List (List ℕ × List ℕ)) → List (List ℕ) → List (Option (List ℕ)) → Option (List ℕ) → Type 0
AreOpened limit None names opened left = ⊤
AreOpened limit (Some files) names opened left =
    (opened ≡ map (file_of files) names) × IfSome (last_read limit opened) (λ input. left ≡ Some (drop (limit + 1) input))

-- files were opened, one for each name, and a fact holds of what they had to be read
abbrev pub AreRead : ℕ → Option (List (List ℕ × List ℕ)) → List (List ℕ) → Option (List ℕ) → (List (Option (List ℕ)) → Type 0) → Type 0
AreRead limit held names left Holds =
    (opened : List (Option (List ℕ))) × (length opened ≡ length names) × AreOpened limit held names opened left × Holds opened

-- no file decides, and what was found and loaded is that of all inputs
abbrev pub IsLoadOf : Options → List (List ℕ) → Sniffed → Load → List (Option (List ℕ)) → Type 0
IsLoadOf o names s load opened = let inputs = filter_map (λ input. input) opened in
    (batch_refusal o.max_input opened ≡ None) × (s ≡ found_in_first o inputs) × (load ≡ load_of o s names inputs)

-- the first file that decides is over the limit
abbrev pub IsOver : ℕ → List (Option (List ℕ)) → Type 0
IsOver limit opened = batch_refusal limit opened ≡ Some (outcomes.TooLarge limit)

-- the files are told, and the first that decides isn't there
abbrev pub LacksOne : ℕ → Option (List (List ℕ × List ℕ)) → List (List ℕ) → Type 0
LacksOne limit None names = ⊥
LacksOne limit (Some files) names = batch_refusal limit (map (file_of files) names) ≡ Some outcomes.ReadFault

-- so many files are loaded
abbrev pub HasFiles : ℕ → Load → Type 0
HasFiles n (loads.Whole batch stats) = length batch.files ≡ n
HasFiles n (loads.FirstError reject) = ⊤
HasFiles n (loads.OtherHeader name) = ⊤

-- each answer to what was found and loaded has a text
abbrev pub IsPrintableFiles : Sniffed → Load → Type 0
IsPrintableFiles s (loads.Whole batch stats) = IsPrintableBatch s batch
IsPrintableFiles s (loads.FirstError reject) = length s.names ≡ length s.types
IsPrintableFiles s (loads.OtherHeader name) = ⊤
