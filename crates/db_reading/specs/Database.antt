-- A table and its rejects, as a reader of the format finds them.
use Rattle.std.specs.Prelude.{ℕ, ◌<◌, ◌≤◌, ◌^◌, List, length, All}
use Rattle.value_types.specs.Datum.{Datum}
use Rattle.csv_sniffer.specs.declared.found.Sniffed.{Sniffed}
use Rattle.csv_writer.specs.Writable.{IsWritableRow}
use Rattle.file_list.specs.declared.batch.FileBook.{FileBook}
use Rattle.db_writer.specs.Database.{database, database_tables}
use Rattle.db_writer.specs.Rejects.{AreCounted}
use Rattle.db_reading.specs.Tables.{HoldsTables}
use Rattle.db_reading.specs.Whole.{IsAllowed, IsWholeDatabase}

-- cells of a table that SQLite can have
pub record IsTableRow (cells : List Datum) : Type 0 where
  pub some : 0 < length cells
  pub few : length cells ≤ 32767
  pub writable : IsWritableRow cells

-- under the first root stand the rows of the table, under the second the scans, under the third the rejects
abbrev pub DatabaseHoldsTable : Type 0
DatabaseHoldsTable =
    (table : List ℕ) (s : Sniffed) (rows : List (List Datum)) (files : List FileBook) → All IsTableRow rows → AreCounted s files →
    length (database table s rows files) < 2 ^ 44 → HoldsTables (database table s rows files) (database_tables table s rows files)

-- and the database is whole, where no record is longer than SQLite allows
abbrev pub DatabaseIsWhole : Type 0
DatabaseIsWhole =
    (table : List ℕ) (s : Sniffed) (rows : List (List Datum)) (files : List FileBook) → All IsTableRow rows → AreCounted s files →
    All IsAllowed (database_tables table s rows files) → length (database table s rows files) < 2 ^ 44 →
    IsWholeDatabase (database table s rows files) (database_tables table s rows files)
