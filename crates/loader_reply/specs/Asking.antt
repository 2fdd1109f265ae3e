-- What words ask for, and which files are read for it (this loader's profile).
use Rattle.std.specs.Prelude.{ℕ, if◌then◌else◌, List, [], ◌∷◌, true, false}
use Rattle.load_options.specs.declared.options.Command.{Command}
use Rattle.load_options.specs.declared.options.Command.TheVariants.{Load, Sniff, Summary, Profile, Convert, Rejects, Batch, Make, Split}
use Rattle.load_options.specs.declared.options.Options.{Options}
use Rattle.load_options.specs.Formats.{is_npz, is_sqlite}
use Rattle.part_cuts.specs.Within.{most_bytes}
use Rattle.loader_reply.specs.Batch.{names_of}
use Rattle.loader_reply.specs.declared.answering.Answer.{Answer}
use Rattle.loader_reply.specs.declared.answering.Answer.TheVariants as answers
use Rattle.loader_reply.specs.declared.replying.Asked.{Asked}
use Rattle.loader_reply.specs.declared.replying.Asked.TheVariants as asks

-- the answer with a database or arrays in its place, where they are wanted
abbrev pub in_format : Options → Answer → Answer
in_format o answer = if is_sqlite o.to then answers.Database else (if is_npz o.to then answers.Arrays else answer)

-- what a command asks for: `batch` alone for several files
abbrev pub asked_by : Options → Command → Asked
asked_by o Load = asks.Loaded answers.Loaded false
asked_by o Sniff = asks.Sniffed
asked_by o Split = asks.Split
asked_by o Summary = asks.Loaded answers.Summary false
asked_by o Profile = asks.Loaded answers.Profile false
asked_by o Convert = asks.Loaded (in_format o answers.Written) false
asked_by o Rejects = asks.Loaded answers.Rejects false
asked_by o Batch = asks.Loaded (in_format o answers.Batch) true
asked_by o Make = asks.Made

-- the most bytes of each file that is read for what is asked
abbrev pub asked_limit : Asked → Options → ℕ
asked_limit asks.Made o = o.max_input
asked_limit asks.Sniffed o = o.max_input
asked_limit asks.Split o = most_bytes
asked_limit (asks.Loaded answer several) o = o.max_input

-- the names of the files that are read for what is asked
abbrev pub asked_names : Asked → List ℕ → List (List ℕ)
asked_names asks.Made word = []
asked_names asks.Sniffed word = word ∷ []
asked_names asks.Split word = word ∷ []
asked_names (asks.Loaded answer several) word = names_of several word
