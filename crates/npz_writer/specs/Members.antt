-- The archive of a table (its arrays and their order are this writer's profile).
use Rattle.std.specs.Prelude.{ℕ, List, [], ◌∷◌, ◌++◌, flat_map, Option, Some, None}
use Rattle.value_types.specs.Datum.{Datum}
use Rattle.csv_sniffer.specs.declared.found.Sniffed.{Sniffed}
use Rattle.file_list.specs.declared.batch.FileBook.{FileBook}
use Rattle.zip_archive.specs.Archive.{archive}
use Rattle.npz_writer.specs.Keys.{column_keys}
use Rattle.npz_writer.specs.Labels.{labels}
use Rattle.npz_writer.specs.RejectSheets.{errors, scans}
use Rattle.npz_writer.specs.Sheets.{SheetView, sheet_members}

-- the scans and the rejects of files, where they are written
abbrev pub reject_sheets : Sniffed → Option (List FileBook) → List SheetView
reject_sheets s None = []
reject_sheets s (Some files) = scans s files ∷ errors files ∷ []

-- the sheets under these keys
abbrev pub sheets_under : List (List ℕ) → Sniffed → List (List Datum) → Option (List FileBook) → List SheetView
sheets_under keys s rows files = labels keys s.types ∷ record { keys = keys; types = s.types; rows = rows } ∷ reject_sheets s files

-- the keys and types of the columns, the rows, and the rejects of files, where they are written
abbrev pub sheets : Sniffed → List (List Datum) → Option (List FileBook) → List SheetView
sheets s rows files = sheets_under (column_keys s.names) s rows files

abbrev pub arrays : Sniffed → List (List Datum) → Option (List FileBook) → List ℕ
arrays s rows files = archive (flat_map sheet_members (sheets s rows files))
