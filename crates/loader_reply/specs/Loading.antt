-- What is read of a file, and what its data come to (this loader's profile).
use Rattle.std.specs.Prelude.{◌≡◌, ℕ, ◌+◌, if◌then◌else◌, Bool, not, ◌||◌, ◌&&◌, false, List, [], drop, Some, None, ◌⊎◌, ◌<◌, ◌≤◌, true, ◌++◌, length, take, Option, ⊤}
use Rattle.load_options.specs.declared.options.Options.{Options}
use Rattle.csv_source.specs.Moves.{MovesFront}
use Rattle.csv_sniffer.specs.declared.finding.Finding.{Finding}
use Rattle.csv_sniffer.specs.declared.found.Sniffed.{Sniffed}
use Rattle.csv_sniffer.specs.Input.{place_under, found, data_place, has_same_header}
use Rattle.reject_book.specs.declared.book.Keep.{Keep}
use Rattle.reject_book.specs.Kept.{book_of, joined, raised}
use Rattle.range_scan.specs.declared.context.Context.{Context}
use Rattle.window_load.specs.declared.data_read.DataRead.{DataRead}
use Rattle.window_load.specs.declared.data_read.WindowRead.{WindowRead}
use Rattle.window_load.specs.declared.data_read.WindowRead.TheVariants.{All, Stopped}
use Rattle.report_text.specs.declared.outcome.Stats.{Stats}
use Rattle.loader_reply.specs.declared.sniffed_head.SniffedHead.{SniffedHead}
use Rattle.loader_reply.specs.Reading.{schema_of, file_reading, table_rows, faults, keep_of, ending_error, stats_of}
use Rattle.csv_sniffer.specs.Sample.{start_of_sample, sample_limit}
use Rattle.window_load.specs.Groups.{group_reach}
use Rattle.window_load.specs.Window.{WindowView, fill_limit}
use Rattle.csv_source.specs.Files.{file_of}

-- ---- the load

-- what the reading of some data took
abbrev pub read_stats : DataRead → Stats
read_stats read = record { ranges = read.ranges; rescans = read.joined.rescans; scanned = read.length + read.joined.rescanned }

-- the good rows of the file of a number, its rejects, and what the reading of its data took
pub record IsLoaded (o : Options) (s : Sniffed) (file_id : ℕ) (input : List ℕ) (read : DataRead) : Type 0 where
  pub types : read.joined.table.types ≡ s.types
  pub rows : read.joined.table.rows ≡ table_rows (file_reading o s file_id input)
  pub book : read.joined.book ≡ book_of (keep_of o) (faults (file_reading o s file_id input))
  pub stats : read_stats read ≡ stats_of o s.dialect (drop (place_under o s input) input)

-- all of the data, or the first error where it ends the load
abbrev pub IsFileLoad : Options → Sniffed → ℕ → List ℕ → WindowRead → Type 0
IsFileLoad o s file_id input (All read) = (ending_error o (faults (file_reading o s file_id input)) ≡ None) × IsLoaded o s file_id input read
IsFileLoad o s file_id input (Stopped reject) = ending_error o (faults (file_reading o s file_id input)) ≡ Some reject

-- whether a later file must begin with the header of the first one, and doesn't
abbrev pub is_headed_otherwise : Options → Sniffed → List ℕ → Bool
is_headed_otherwise o s input = o.same_header && not (has_same_header o s input)

-- the place where a later file's data begin, unless it is headed otherwise
abbrev pub later_start : Options → Sniffed → List ℕ → Option ℕ
later_start o s input = if is_headed_otherwise o s input then None else Some (place_under o s input)

-- what a later file's data come to, unless it begins with another header
abbrev pub IsLaterLoad : Options → Sniffed → ℕ → List ℕ → Option WindowRead → Type 0
IsLaterLoad o s file_id input None = is_headed_otherwise o s input ≡ true
IsLaterLoad o s file_id input (Some read) = (is_headed_otherwise o s input ≡ false) × IsFileLoad o s file_id input read

-- ---- how the data are read

-- what all rows of the file of a number are scanned by
abbrev pub context_of : Options → Sniffed → ℕ → Context
context_of o s file_id = record { dialect = s.dialect; schema = schema_of o s; keep = keep_of o; scan_id = 0; file_id = file_id }

-- whether the first error ends the load
abbrev pub stops_at_error : Options → Bool
stops_at_error o = not (o.ignore_errors || o.store_rejects)

-- the rejects of what was read are kept so
abbrev pub KeepsAs : Keep → WindowRead → Type 0
KeepsAs keep (All read) = read.joined.book.keep ≡ keep
KeepsAs keep (Stopped first) = ⊤

-- what was read of data that have some line ends before them
abbrev pub raised_data : Keep → ℕ → DataRead → DataRead
raised_data keep lines read = record read { joined = record read.joined { book = joined lines (book_of keep []) read.joined.book } }

abbrev pub raised_read : Keep → ℕ → WindowRead → WindowRead
raised_read keep lines (All read) = All (raised_data keep lines read)
raised_read keep lines (Stopped reject) = Stopped (raised lines reject)

-- ---- the head of an input, which is read before the sample is looked at

-- the bytes go on behind the sample's start for more than a sample may have
abbrev pub GoesBehindSample : ℕ → List ℕ → Type 0
GoesBehindSample skip bytes = start_of_sample skip bytes + sample_limit < length bytes

-- a window holds an input's bytes from the first on, no more than it may have, and with them the sample
pub record IsHead (skip most : ℕ) (head : WindowView) : Type 0 where
  pub begins : head.base ≡ 0
  pub limit : head.most ≡ most
  pub within : length head.kept ≤ most
  pub sample : (head.ended ≡ true) ⊎ GoesBehindSample skip head.kept

-- what is found in some bytes, and the place where the data begin under it
pub record IsFinding (o : Options) (bytes : List ℕ) (finding : Finding) : Type 0 where
  pub sniffed : finding.sniffed ≡ found o bytes
  pub place : finding.data_start ≡ place_under o finding.sniffed bytes
  pub within : finding.data_start ≤ length bytes

-- a head goes on as bytes come of a source, no further than the first group needs or a step, and the finding is that of all it holds
pub record IsSniffedHead (o : Options) (left_before left_after : Option (List ℕ)) (old : WindowView) (read : SniffedHead) : Type 0 where
  pub head : IsHead o.skip o.max_input read.head
  pub finding : IsFinding o read.head.kept read.finding
  pub moved : MovesFront left_before left_after old.kept read.head.kept
  pub within : length read.head.kept ≤ fill_limit (group_reach o.range_size o.max_line_size) (length old.kept)

-- what is found in an input is found in a head of it that holds the sample, and so is the place where the data begin
abbrev pub FoundInHead : Type 0
FoundInHead = (o : Options) (head rest : List ℕ) → (rest ≡ []) ⊎ GoesBehindSample o.skip head →
    (found o (head ++ rest) ≡ found o head) × ((s : Sniffed) → data_place o (head ++ rest) s ≡ data_place o head s)
    × ((s : Sniffed) → place_under o s (head ++ rest) ≡ place_under o s head)
    × ((s : Sniffed) → has_same_header o s (head ++ rest) ≡ has_same_header o s head)

-- ---- what is read of a file

-- where the files are told, the bytes are the file's, up to one over the limit, and those behind are left
abbrev pub IsInput : ℕ → Option (List (List ℕ × List ℕ)) → List ℕ → List ℕ → Option (List ℕ) → Type 0
IsInput limit None name bytes left = ⊤
IsInput limit (Some files) name bytes left = (input : List ℕ)
    × (file_of files name ≡ Some input) × (bytes ≡ take (limit + 1) input) × (left ≡ Some (drop (limit + 1) input))
