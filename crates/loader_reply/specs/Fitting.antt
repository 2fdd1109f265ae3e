-- Whether what files come to is as the options want it (this loader's profile).
use Rattle.std.specs.Prelude.{◌≡◌, ℕ, nat_lt, if◌then◌else◌, Bool, ◌&&◌, true, false, List, Option, Some, None, option_map, All}
use Rattle.std.specs.Bool.{then_some}
use Rattle.std.specs.Option.{option_or}
use Rattle.column_taps.specs.Seen.{Seen, IsFresh}
use Rattle.csv_sniffer.specs.declared.found.Sniffed.{Sniffed}
use Rattle.csv_sniffer.specs.NamedTypes.{missing_name}
use Rattle.load_options.specs.declared.options.Options.{Options}
use Rattle.report_text.specs.BatchReport.{all_in}
use Rattle.report_text.specs.declared.outcome.Mismatch.{Mismatch}
use Rattle.report_text.specs.declared.outcome.Mismatch.TheVariants.{NoColumn, TooManyColumns}
use Rattle.report_text.specs.declared.outcome.Outcome.{Outcome}
use Rattle.report_text.specs.declared.outcome.Outcome.TheVariants as outcomes
use Rattle.loader_reply.specs.declared.answering.Answer.{Answer}
use Rattle.loader_reply.specs.declared.answering.Answer.TheVariants as answers
use Rattle.loader_reply.specs.declared.batch.Load.{Load}
use Rattle.loader_reply.specs.declared.batch.Load.TheVariants as loads
use Rattle.loader_reply.specs.declared.database.TheConstants.{COLUMN_LIMIT}
use Rattle.loader_reply.specs.Batch.{HasFiles, IsPrintableFiles}
use Rattle.loader_reply.specs.ArrayFiles.{long_name}
use Rattle.loader_reply.specs.Databases.{is_too_wide}

-- whether an answer is that of one file alone
abbrev pub is_of_one : Answer → Bool
is_of_one answers.Loaded = true
is_of_one answers.Summary = true
is_of_one answers.Profile = false
is_of_one answers.Written = false
is_of_one answers.Rejects = true
is_of_one answers.Database = false
is_of_one answers.Arrays = false
is_of_one answers.Batch = false

abbrev pub is_database : Answer → Bool
is_database answers.Loaded = false
is_database answers.Summary = false
is_database answers.Profile = false
is_database answers.Written = false
is_database answers.Rejects = false
is_database answers.Database = true
is_database answers.Arrays = false
is_database answers.Batch = false

abbrev pub is_arrays : Answer → Bool
is_arrays answers.Loaded = false
is_arrays answers.Summary = false
is_arrays answers.Profile = false
is_arrays answers.Written = false
is_arrays answers.Rejects = false
is_arrays answers.Database = false
is_arrays answers.Arrays = true
is_arrays answers.Batch = false

-- ---- what comes before an answer

-- the type of a column is given that isn't there
abbrev pub no_column : Options → Sniffed → Option Mismatch
no_column o s = option_map (λ name. NoColumn name s.names) (missing_name o.column_types s.names)

-- a table of the answer can't have the columns that were found
abbrev pub too_many_columns : Answer → Sniffed → Option Mismatch
too_many_columns answer s = then_some (is_database answer && is_too_wide s) (TooManyColumns COLUMN_LIMIT)

-- an archive of the answer can't have the name of a column that was found
abbrev pub too_long_name : Answer → Sniffed → Option Mismatch
too_long_name answer s = if is_arrays answer then long_name s else None

-- what was found doesn't fit the format of the answer
abbrev pub misfit : Answer → Sniffed → Option Mismatch
misfit answer s = option_or (too_many_columns answer s) (too_long_name answer s)

-- the words don't fit what was found
abbrev pub mismatch : Answer → Options → Sniffed → Option Mismatch
mismatch answer o s = option_or (no_column o s) (misfit answer s)

-- the bound on faults, where there are more of them
abbrev pub passed_bound : Option ℕ → ℕ → Option ℕ
passed_bound None faults = None
passed_bound (Some bound) faults = if nat_lt bound faults then Some bound else None

-- the bound on faults, where files that are loaded whole have more of them
abbrev pub too_many_faults : Option ℕ → Load → Option ℕ
too_many_faults bound (loads.Whole batch stats) = passed_bound bound (all_in batch.files)
too_many_faults bound (loads.FirstError reject) = None
too_many_faults bound (loads.OtherHeader file) = None

abbrev pub refusal : Answer → Options → Sniffed → Load → Option Outcome
refusal answer o s load =
    option_or (option_map (λ m. outcomes.Mismatch m) (mismatch answer o s)) (option_map (λ bound. outcomes.TooManyFaults bound) (too_many_faults o.max_errors load))

-- ---- what an answer rests on

-- files that have a text, one where the answer is that of one file alone, and taps that have seen nothing
pub record IsAnswerable (answer : Answer) (s : Sniffed) (load : Load) (taps : List Seen) : Type 0 where
  pub one : is_of_one answer ≡ true → HasFiles 1 load
  pub printable : IsPrintableFiles s load
  pub fresh : All IsFresh taps
