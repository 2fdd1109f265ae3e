-- The tables of a database, as a reader of the format finds them.
use Rattle.std.specs.Prelude.{◌≡◌, ℕ, ◌+◌, ◌<◌, ◌≤◌, ℤ, pos, List, [], ◌∷◌, codes, length, map, All, ⊤}
use Rattle.sqlite_value.specs.declared.value.Value.TheVariants.{Int, Text}
use Rattle.sqlite_value.specs.Order.{Row}
use Rattle.sqlite_record.specs.Record.{decode}
use Rattle.sqlite_format.specs.declared.kind.Tree.TheVariants.{Table}
use Rattle.sqlite_btree.specs.Chain.{Entry}
use Rattle.sqlite_btree.specs.Stored.{entries_at, rowid_of}
use Rattle.db_records.specs.Record.{IsWritable}
use Rattle.db_pages.specs.Image.{Tabled}
use Rattle.db_reading.specs.Pages.{file_pages}

-- the rows under a root of a file: the rowid of each, and the values of its record
abbrev pub rows_at : List ℕ → ℕ → List (ℤ × Row)
rows_at file root = map (λ (entry : Entry). (rowid_of entry.key, decode entry.payload)) (entries_at Table 4096 (file_pages file) root)

-- rows with the rowids from a number on
abbrev pub numbered : {X : Type 0} → ℕ → List X → List (ℤ × X)
numbered rowid [] = []
numbered rowid (row ∷ rows) = (pos rowid, row) ∷ numbered (rowid + 1) rows

-- the list of tables, by the numbers of their roots
abbrev pub list_rows : List Tabled → List ℕ → List Row
list_rows [] roots = []
list_rows (table ∷ tables) [] = []
list_rows (table ∷ tables) (root ∷ roots) =
    (Text (codes "table") ∷ Text table.name ∷ Text table.name ∷ Int (pos root) ∷ Text table.sql ∷ []) ∷ list_rows tables roots

-- under each root stand the rows of its table
abbrev pub AreUnder : List ℕ → List Tabled → List ℕ → Type 0
AreUnder file [] [] = ⊤
AreUnder file [] (root ∷ roots) = ⊥
AreUnder file (table ∷ tables) [] = ⊥
AreUnder file (table ∷ tables) (root ∷ roots) = (rows_at file root ≡ numbered 1 table.rows) × AreUnder file tables roots

-- a file whose first page leads to the list of these tables, and the list to their rows
pub record HoldsTables (file : List ℕ) (tables : List Tabled) : Type 0 where
  pub roots : List ℕ
  pub listed : rows_at file 1 ≡ numbered 1 (list_rows tables roots)
  pub held : AreUnder file tables roots

-- a row of one to 32,767 values, SQLite's most columns
pub record IsStorable (row : Row) : Type 0 where
  pub some : 0 < length row
  pub few : length row ≤ 32767
  pub writable : All IsWritable row
