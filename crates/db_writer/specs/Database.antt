-- A table and its rejects as an SQLite database.
use Rattle.std.specs.Prelude.{ℕ, List, [], ◌∷◌, codes, map}
use Rattle.value_types.specs.Datum.{Datum}
use Rattle.csv_sniffer.specs.declared.found.Sniffed.{Sniffed}
use Rattle.file_list.specs.declared.batch.FileBook.{FileBook}
use Rattle.db_records.specs.Record.{record_bytes}
use Rattle.db_pages.specs.Grown.{tree_of}
use Rattle.db_pages.specs.Image.{Imaged, Tabled, image, with_table}
use Rattle.db_pages.specs.Laid.{next_place}
use Rattle.db_writer.specs.Definitions.{create_text, scans_text, errors_text}
use Rattle.db_writer.specs.Rejects.{scan_rows, reject_rows}
use Rattle.db_writer.specs.Stored.{stored_row}

-- the rows under the names that were found
abbrev pub rows_table : List ℕ → Sniffed → List (List Datum) → Tabled
rows_table table s rows = record { name = table; sql = create_text table s.names s.types; rows = map stored_row rows }

-- the scans of files
abbrev pub scans_table : Sniffed → List FileBook → Tabled
scans_table s files = record { name = codes "reject_scans"; sql = scans_text; rows = scan_rows s 0 files }

-- the rejects that their books store
abbrev pub errors_table : List FileBook → Tabled
errors_table files = record { name = codes "reject_errors"; sql = errors_text; rows = reject_rows files }

abbrev pub database_tables : List ℕ → Sniffed → List (List Datum) → List FileBook → List Tabled
database_tables table s rows files = rows_table table s rows ∷ scans_table s files ∷ errors_table files ∷ []

unfoldable pub database : List ℕ → Sniffed → List (List Datum) → List FileBook → List ℕ
database table s rows files = image (database_tables table s rows files)

-- a file with one table more, behind its pages so far
abbrev pub with_tabled : Imaged → Tabled → Imaged
with_tabled before table = with_table before table.name table.sql (tree_of (next_place 1 before.trees) (map record_bytes table.rows))
