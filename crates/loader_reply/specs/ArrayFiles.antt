-- What arrays are written of (this loader's profile).
use Rattle.std.specs.Prelude.{Bool, List, Option, option_map}
use Rattle.std.specs.Bool.{then_some}
use Rattle.csv_sniffer.specs.declared.found.Sniffed.{Sniffed}
use Rattle.file_list.specs.declared.batch.FileBook.{FileBook}
use Rattle.npz_writer.specs.LongKeys.{long_key}
use Rattle.npz_writer.specs.declared.keys.TheConstants.{KEY_LIMIT}
use Rattle.report_text.specs.declared.outcome.Mismatch.{Mismatch}
use Rattle.report_text.specs.declared.outcome.Mismatch.TheVariants.{LongName}

-- the files whose rejects are written, where rejects are stored
abbrev pub files_if_stored : Bool → List FileBook → Option (List FileBook)
files_if_stored store files = then_some store files

-- the first of the names that were found that is too long for an archive
abbrev pub long_name : Sniffed → Option Mismatch
long_name s = option_map (λ column. LongName column KEY_LIMIT) (long_key s)
