-- How a reply to words comes about, and how it is written (this loader's profile).
use Rattle.std.specs.Prelude.{◌≡◌, ◌⊎◌, ℕ, not, Bool, false, List, Option, Result, Ok, Err, IsTrue, IsFalse}
use Rattle.std.specs.Io.KnownBytes.{Appends}
use Rattle.csv_source.specs.Causes.{Rose}
use Rattle.csv_source.specs.Moves.{AppendsFront}
use Rattle.load_options.specs.declared.options.Request.{Request}
use Rattle.load_options.specs.declared.words.WordFault.{WordFault}
use Rattle.load_options.specs.Commands.{is_make}
use Rattle.load_options.specs.Request.{read_words}
use Rattle.load_options.specs.Texts.{word_at}
use Rattle.column_taps.specs.Seen.{Seen}
use Rattle.report_text.specs.declared.outcome.Outcome.TheVariants as outcomes
use Rattle.window_load.specs.declared.stop.LoadStop.{LoadStop}
use Rattle.window_load.specs.declared.stop.LoadStop.TheVariants as stops
use Rattle.loader_reply.specs.Asking.{asked_by, asked_limit}
use Rattle.loader_reply.specs.Batch.{AreRead, LacksOne}
use Rattle.loader_reply.specs.declared.ending.Ending.{Ending}
use Rattle.loader_reply.specs.declared.ending.Ending.TheVariants as endings
use Rattle.loader_reply.specs.declared.status.Status.TheVariants as statuses
use Rattle.loader_reply.specs.Ending.{status_code}
use Rattle.loader_reply.specs.Reply.{Reply, outcome_reply, words_names, words_reply}

-- ---- what words ask for

-- whether a request reads a file: the words are accepted, and the command isn't `make`
abbrev pub reads_file : Result Request WordFault → Bool
reads_file (Err fault) = false
reads_file (Ok request) = not (is_make request.command)

abbrev pub ReadsFile : List (List ℕ) → Type 0
ReadsFile words = IsTrue (reads_file (read_words words))

abbrev pub ReadsNoFile : List (List ℕ) → Type 0
ReadsNoFile words = IsFalse (reads_file (read_words words))

-- the limit of an input of accepted words
abbrev pub input_limit : Result Request WordFault → ℕ
input_limit (Err fault) = 0
input_limit (Ok request) = asked_limit (asked_by request.options request.command) request.options

-- ---- how a reply comes about, and how it is written

-- the whole text that the words ask for, refused words, a first error, words that don't fit the file, an input over the limit, more faults than the bound
abbrev pub IsAnswer : ℕ → Type 0
IsAnswer status = (status ≡ status_code statuses.Answered) ⊎ (status ≡ status_code statuses.Refused) ⊎ (status ≡ status_code statuses.FirstError)
    ⊎ (status ≡ status_code statuses.Mismatch) ⊎ (status ≡ status_code statuses.TooLarge) ⊎ (status ≡ status_code statuses.TooManyFaults)

-- an answer to what came of files as they were opened, or a read fault where the source failed or hasn't one that decides
abbrev pub IsReplyBy : ℕ → (List (Option (List ℕ)) → Reply) → List (List ℕ) → Option (List (List ℕ × List ℕ)) → Option (List ℕ) → ℕ → ℕ → Reply → Type 0
IsReplyBy limit reply_by names held left before after r =
    AreRead limit held names left (λ opened. IsAnswer r.status × (r ≡ reply_by opened))
    ⊎ ((r ≡ outcome_reply outcomes.ReadFault) × (Rose before after ⊎ LacksOne limit held names))

abbrev pub IsReplyTo : List (List ℕ) → List Seen → Option (List (List ℕ × List ℕ)) → Option (List ℕ) → ℕ → ℕ → Reply → Type 0
IsReplyTo words taps held left before after r = let asked = read_words words in
    IsReplyBy (input_limit asked) (words_reply asked words taps) (words_names asked (word_at words 1)) held left before after r

-- the reply where the reading of files stopped
abbrev pub IsStopReply : ℕ → LoadStop → Reply → Type 0
IsStopReply limit stops.TooLarge r = r ≡ outcome_reply (outcomes.TooLarge limit)
IsStopReply limit stops.Failed r = r ≡ outcome_reply outcomes.ReadFault
IsStopReply limit stops.NoMemory r = ⊥

-- all of the text was written, or the sink failed and took a front
abbrev pub IsWritten : Reply → ℕ → ℕ → Option (List ℕ) → Option (List ℕ) → ℕ → Type 0
IsWritten r faults_before faults_after before after status =
    ((status ≡ r.status) × Appends before after r.text) ⊎ ((status ≡ status_code statuses.WriteFault) × Rose faults_before faults_after × AppendsFront before after r.text)

-- the ending is that of the reply, unless its text wasn't written whole
abbrev pub IsEndingOf : Reply → Ending → Type 0
IsEndingOf r ending = (ending ≡ r.ending) ⊎ (ending ≡ endings.WriteFault)
