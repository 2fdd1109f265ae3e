-- The reply to words: an ending with its status, and a text (this loader's profile).
use Rattle.std.specs.Prelude.{◌≡◌, ℕ, if◌then◌else◌, List, [], ◌∷◌, map, option_map, Option, Some, None, unwrap_or, Result, Ok, Err, String, string_bytes, false}
use Rattle.std.specs.Bool.{then_some}
use Rattle.std.specs.List.{filter_map}
use Rattle.std.specs.declared.alloc.Global.{Global}
use Rattle.csv_source.specs.Files.{file_of}
use Rattle.load_options.specs.declared.options.Options.{Options}
use Rattle.load_options.specs.declared.options.Request.{Request}
use Rattle.load_options.specs.declared.words.WordFault.{WordFault}
use Rattle.load_options.specs.Request.{read_words}
use Rattle.load_options.specs.Texts.{word_at}
use Rattle.csv_sniffer.specs.Explanation.{explanation}
use Rattle.csv_sniffer.specs.Input.{found}
use Rattle.csv_sniffer.specs.declared.found.Sniffed.{Sniffed}
use Rattle.reject_book.specs.Kept.{book_of}
use Rattle.file_list.specs.declared.batch.FileBook.{FileBook}
use Rattle.file_list.specs.BatchView.{BatchView}
use Rattle.column_taps.specs.Seen.{Seen}
use Rattle.report_text.specs.BatchReport.{all_in}
use Rattle.report_text.specs.MadeText.{made_text}
use Rattle.report_text.specs.Printable.{IsPrintable}
use Rattle.report_text.specs.Report.{has_rows, report_of}
use Rattle.report_text.specs.declared.outcome.Loaded.{Loaded}
use Rattle.report_text.specs.declared.outcome.Mismatch.TheVariants.{OtherHeader}
use Rattle.report_text.specs.declared.outcome.Outcome.{Outcome}
use Rattle.report_text.specs.declared.outcome.Outcome.TheVariants as outcomes
use Rattle.report_text.specs.declared.outcome.Stats.{Stats}
use Rattle.part_cuts.specs.Within.{most_bytes}
use Rattle.csv_writer.specs.WrittenTable.{written_table}
use Rattle.csv_writer.specs.WrittenRejects.{written_rejects}
use Rattle.column_profile.specs.Profile.{profile_text}
use Rattle.db_writer.specs.Database.{database}
use Rattle.npz_writer.specs.Members.{arrays}
use Rattle.loader_reply.specs.Batch.{batch_refusal, found_in_first, load_of, names_of}
use Rattle.loader_reply.specs.ArrayFiles.{files_if_stored}
use Rattle.loader_reply.specs.Asking.{asked_by, asked_names}
use Rattle.loader_reply.specs.Databases.{stored_files}
use Rattle.loader_reply.specs.Fitting.{no_column, refusal}
use Rattle.loader_reply.specs.Ending.{ending_code, ending_of}
use Rattle.loader_reply.specs.Reading.{keep_of}
use Rattle.loader_reply.specs.Showing.{tap_lines}
use Rattle.loader_reply.specs.Splitting.{split_outcome}
use Rattle.loader_reply.specs.declared.answering.Answer.{Answer}
use Rattle.loader_reply.specs.declared.answering.Answer.TheVariants as answers
use Rattle.loader_reply.specs.declared.batch.Load.{Load}
use Rattle.loader_reply.specs.declared.batch.Load.TheVariants as loads
use Rattle.loader_reply.specs.declared.ending.Ending.{Ending}
use Rattle.loader_reply.specs.declared.ending.Ending.TheVariants as endings
use Rattle.loader_reply.specs.declared.replying.Asked.{Asked}
use Rattle.loader_reply.specs.declared.replying.Asked.TheVariants as asks

-- the bytes of words
abbrev pub texts : List (String Global) → List (List ℕ)
texts words = map string_bytes words

pub record Reply : Type 0 where
  pub status : ℕ
  pub text : List ℕ
  pub ending : Ending

abbrev pub reply : Ending → List ℕ → Reply
reply ending text = record { status = ending_code ending; text = text; ending = ending }

-- an outcome whose report has no rows, and a text
abbrev pub IsShort : Outcome → Type 0
IsShort outcome = IsPrintable outcome × (has_rows outcome ≡ false)

-- the reply with the report of an outcome
abbrev pub outcome_reply : Outcome → Reply
outcome_reply outcome = reply (ending_of outcome) (report_of outcome)

-- ---- the reply to files that are loaded whole

-- the name and the rejects of the first file
abbrev pub first_file : Options → List FileBook → FileBook
first_file o [] = record { name = []; book = book_of (keep_of o) [] }
first_file o (file ∷ files) = file

-- the only file of a batch as it is reported, whatever its table's room
abbrev pub loaded_of : Options → Sniffed → BatchView → Stats → Loaded
loaded_of o s batch stats = let file = first_file o batch.files in record {
  sniffed = s;
  table = record { types = batch.types; rows = batch.rows; spare = 0 };
  book = file.book;
  file = file.name;
  store = o.store_rejects;
  stats = then_some o.stats stats;
}

abbrev pub without_spare : Loaded → Loaded
without_spare l = record l { table = record l.table { spare = 0 } }

abbrev pub summary_reply : Loaded → List Seen → Reply
summary_reply l taps = outcome_reply (outcomes.Summary l (tap_lines taps l.table.rows))

-- what each column holds
abbrev pub profile_reply : Sniffed → BatchView → Reply
profile_reply s batch = reply (endings.Answered (all_in batch.files) (Some s.noticed)) (profile_text s.names s.types batch.rows)

-- the rows under the names that were found
abbrev pub written_reply : Sniffed → BatchView → Reply
written_reply s batch = reply (endings.Answered (all_in batch.files) (Some s.noticed)) (written_table s.names batch.rows)

abbrev pub database_reply : Options → Sniffed → BatchView → Reply
database_reply o s batch =
    reply (endings.Answered (all_in batch.files) (Some s.noticed)) (database o.table s batch.rows (stored_files o.store_rejects batch.files))

abbrev pub arrays_reply : Options → Sniffed → BatchView → Reply
arrays_reply o s batch =
    reply (endings.Answered (all_in batch.files) (Some s.noticed)) (arrays s batch.rows (files_if_stored o.store_rejects batch.files))

-- the stored rejects of the first file
abbrev pub rejects_reply : Options → Sniffed → BatchView → Reply
rejects_reply o s batch = reply (endings.Answered (all_in batch.files) (Some s.noticed)) (written_rejects (first_file o batch.files).book.stored)

abbrev pub whole_reply : Answer → Options → Sniffed → List Seen → BatchView → Stats → Reply
whole_reply answers.Loaded o s taps batch stats = outcome_reply (outcomes.Loaded (loaded_of o s batch stats))
whole_reply answers.Summary o s taps batch stats = summary_reply (loaded_of o s batch stats) taps
whole_reply answers.Profile o s taps batch stats = profile_reply s batch
whole_reply answers.Written o s taps batch stats = written_reply s batch
whole_reply answers.Rejects o s taps batch stats = rejects_reply o s batch
whole_reply answers.Database o s taps batch stats = database_reply o s batch
whole_reply answers.Arrays o s taps batch stats = arrays_reply o s batch
whole_reply answers.Batch o s taps batch stats = outcome_reply (outcomes.Batch s batch o.store_rejects (then_some o.stats stats))

-- ---- the reply to a load

-- this reply, unless an outcome comes before it
abbrev pub unless_refused : Reply → Option Outcome → Reply
unless_refused r None = r
unless_refused r (Some outcome) = outcome_reply outcome

-- all of it, or the first error, or a file that begins with another header
abbrev pub whole_or_error : Answer → Options → Sniffed → List Seen → Load → Reply
whole_or_error answer o s taps (loads.Whole batch stats) = whole_reply answer o s taps batch stats
whole_or_error answer o s taps (loads.FirstError reject) = outcome_reply (outcomes.FirstError s reject)
whole_or_error answer o s taps (loads.OtherHeader file) = outcome_reply (outcomes.Mismatch (OtherHeader file s.names))

abbrev pub load_reply : Answer → Options → Sniffed → List Seen → Load → Reply
load_reply answer o s taps load = unless_refused (whole_or_error answer o s taps load) (refusal answer o s load)

-- ---- the reply to inputs, each within its limit

-- what was found in an input, and why where that is asked for
abbrev pub told : Options → Sniffed → List ℕ → Outcome
told o s input = if o.explain then outcomes.Explained s (explanation o input s) else outcomes.Sniffed s

-- what `sniff` tells of an input: that a column isn't there, or what is found
abbrev pub sniffed_outcome : Options → List ℕ → Outcome
sniffed_outcome o input = let s = found o input in unwrap_or (option_map (λ m. outcomes.Mismatch m) (no_column o s)) (told o s input)

-- the reply of `sniff`, by the first
abbrev pub sniffed_reply : Options → List (List ℕ) → Reply
sniffed_reply o [] = outcome_reply (sniffed_outcome o [])
sniffed_reply o (input ∷ inputs) = outcome_reply (sniffed_outcome o input)

-- the reply of `split` to words, by the first
abbrev pub split_reply : Options → List (List ℕ) → List (List ℕ) → Reply
split_reply o words [] = outcome_reply (split_outcome o words [])
split_reply o words (input ∷ inputs) = outcome_reply (split_outcome o words input)

-- the reply by the load of inputs under names, each read under what is found in the first one
abbrev pub inputs_reply : Answer → Options → List (List ℕ) → List Seen → List (List ℕ) → Reply
inputs_reply answer o names taps inputs = let s = found_in_first o inputs in load_reply answer o s taps (load_of o s names inputs)

-- ---- the reply to files as they were opened

-- this reply, unless a file decides that isn't there or is over its limit
abbrev pub opened_reply : (List (List ℕ) → Reply) → ℕ → List (Option (List ℕ)) → Reply
opened_reply to_inputs limit opened = unless_refused (to_inputs (filter_map (λ input. input) opened)) (batch_refusal limit opened)

-- ---- the reply to words

-- the reply to the words of a request that asks for this, by what came of their files as they were opened; `make` reads none
abbrev pub asked_reply : Asked → Request → List (List ℕ) → List Seen → List (Option (List ℕ)) → Reply
asked_reply asks.Made request words taps opened = reply (endings.Answered 0 None) (made_text request.number request.rows)
asked_reply asks.Sniffed request words taps opened = let o = request.options in
    opened_reply (sniffed_reply o) o.max_input opened
asked_reply asks.Split request words taps opened = opened_reply (split_reply request.options words) most_bytes opened
asked_reply (asks.Loaded answer several) request words taps opened = let o = request.options in
    opened_reply (inputs_reply answer o (names_of several (word_at words 1)) taps) o.max_input opened

abbrev pub words_reply : Result Request WordFault → List (List ℕ) → List Seen → List (Option (List ℕ)) → Reply
words_reply (Err fault) words taps opened = outcome_reply (outcomes.Refused fault (word_at words fault.index))
words_reply (Ok request) words taps opened = asked_reply (asked_by request.options request.command) request words taps opened

-- the names of the files that words want to be read
abbrev pub words_names : Result Request WordFault → List ℕ → List (List ℕ)
words_names (Err fault) word = []
words_names (Ok request) word = asked_names (asked_by request.options request.command) word

-- what the files tell of those of some names; nothing has to be told where there is none
abbrev pub told_of : List (List ℕ) → Option (List (List ℕ × List ℕ)) → Option (List (Option (List ℕ)))
told_of [] held = Some []
told_of (name ∷ names) None = None
told_of (name ∷ names) (Some files) = Some (map (file_of files) (name ∷ names))

-- the reply to words, with the files that are held and taps; none where it depends on files that aren't told, so that each clause of the
-- top call reads the same for memory and for real files
abbrev pub reply_of : List (List ℕ) → Option (List (List ℕ × List ℕ)) → List Seen → Option Reply
reply_of words held taps = let asked = read_words words in
    option_map (words_reply asked words taps) (told_of (words_names asked (word_at words 1)) held)
