-- The words that ask for a text of the program's own, and not for a run.
use Rattle.std.specs.Prelude.{◌≡◌, ◌⊎◌, ℕ, ◌||◌, Bool, if◌then◌else◌, List, codes, Option, Some, None}
use Rattle.std.specs.Io.KnownBytes.{Appends}
use Rattle.std.specs.Str.{bytes_eq}
use Rattle.csv_source.specs.Causes.{Rose}
use Rattle.csv_source.specs.Moves.{AppendsFront}
use Rattle.load_options.specs.Texts.{word_at}
use Rattle.loader_reply.specs.declared.ending.Ending.{Ending}
use Rattle.loader_reply.specs.declared.ending.Ending.TheVariants.{Answered, WriteFault}
use Rattle.program_answer.specs.declared.answering.OwnText.{OwnText}
use Rattle.program_answer.specs.declared.answering.OwnText.TheVariants.{Help, Options, Report, Version}

-- the options that ask for help wherever a command, a file or the first option may stand
abbrev pub is_help_option : List ℕ → Bool
is_help_option word = bytes_eq word (codes "--help") || bytes_eq word (codes "-h")

abbrev pub asks_help : List (List ℕ) → Bool
asks_help words =
    bytes_eq (word_at words 0) (codes "help") || is_help_option (word_at words 0) || is_help_option (word_at words 1) || is_help_option (word_at words 2)

-- the part of the help that a word names
abbrev pub part_named : List ℕ → OwnText
part_named word = if bytes_eq word (codes "options") then Options else (if bytes_eq word (codes "report") then Report else Help)

-- the part of the help that words ask for: behind the word `help` one may be named
abbrev pub help_of : List (List ℕ) → OwnText
help_of words = if bytes_eq (word_at words 0) (codes "help") then part_named (word_at words 1) else Help

abbrev pub asks_version : List (List ℕ) → Bool
asks_version words =
    bytes_eq (word_at words 0) (codes "version") || bytes_eq (word_at words 0) (codes "--version") || bytes_eq (word_at words 0) (codes "-V")

-- the text that words ask for; none where they are the loader's
abbrev pub own_text : List (List ℕ) → Option OwnText
own_text words = if asks_help words then Some (help_of words) else (if asks_version words then Some Version else None)

-- a text was written whole, or the sink failed and took a front
abbrev pub IsTold : List ℕ → ℕ → ℕ → Option (List ℕ) → Option (List ℕ) → Ending → Type 0
IsTold text faults_before faults_after before after ending =
    ((ending ≡ Answered 0 None) × Appends before after text)
    ⊎ ((ending ≡ WriteFault) × Rose faults_before faults_after × AppendsFront before after text)
