-- What a database is written of (this loader's profile; the limit of columns: SQLite, "Implementation Limits For SQLite", section 2).
use Rattle.std.specs.Prelude.{nat_lt, if◌then◌else◌, Bool, List, [], length}
use Rattle.csv_sniffer.specs.declared.found.Sniffed.{Sniffed}
use Rattle.file_list.specs.declared.batch.FileBook.{FileBook}
use Rattle.loader_reply.specs.declared.database.TheConstants.{COLUMN_LIMIT}

-- whether a table can't have the columns that were found
abbrev pub is_too_wide : Sniffed → Bool
is_too_wide s = nat_lt COLUMN_LIMIT (length s.types)

-- the files whose rejects are written: none, unless rejects are stored
abbrev pub stored_files : Bool → List FileBook → List FileBook
stored_files store files = if store then files else []
