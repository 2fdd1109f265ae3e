-- A database of tables (SQLite, "Database File Format", sections 1.3 and 2.6).
use Rattle.std.specs.Prelude.{ℕ, ◌-◌, ◌^◌, pos, List, [], ◌∷◌, ◌++◌, codes, length, map, take, drop, replicate, nat_le, if◌then◌else◌}
use Rattle.sqlite_value.specs.declared.value.Value.TheVariants.{Int, Text}
use Rattle.sqlite_value.specs.Order.{Row}
use Rattle.db_records.specs.Record.{record_bytes}
use Rattle.db_pages.specs.Numbers.{four_bytes, number_of}
use Rattle.db_pages.specs.Laid.{next_place}
use Rattle.db_pages.specs.Grown.{TreeBytes, tree_of}

-- a table: its name, its definition and its rows
pub record Tabled : Type 0 where
  pub name : List ℕ
  pub sql : List ℕ
  pub rows : List Row

-- the row of a table in the list of tables
abbrev pub list_row : List ℕ → List ℕ → ℕ → Row
list_row name sql root = Text (codes "table") ∷ Text name ∷ Text name ∷ Int (pos (number_of root)) ∷ Text sql ∷ []

-- the bytes of trees one behind another, behind `base` pages, and the rows of the list of tables
abbrev pub trees_bytes : ℕ → List Tabled → List ℕ
trees_bytes base [] = []
trees_bytes base (table ∷ tables) =
    let tree = tree_of base (map record_bytes table.rows) in tree.bytes ++ trees_bytes (next_place base tree.bytes) tables

abbrev pub listed : ℕ → List Tabled → List Row
listed base [] = []
listed base (table ∷ tables) =
    let tree = tree_of base (map record_bytes table.rows) in
    list_row table.name table.sql tree.root ∷ listed (next_place base tree.bytes) tables

-- pages of 4096 bytes, no log, UTF-8, schema format 4; a root without cells, whose child is the root of the list of tables
unfoldable pub first_page : ℕ → ℕ → List ℕ
first_page pages root =
    codes "SQLite format 3" ++ (0 ∷ 16 ∷ 0 ∷ 1 ∷ 1 ∷ 0 ∷ 64 ∷ 32 ∷ 32 ∷ []) ++ four_bytes 1 ++ four_bytes pages ++ four_bytes 0 ++ four_bytes 0
    ++ four_bytes 1 ++ four_bytes 4 ++ replicate 8 0 ++ four_bytes 1 ++ replicate 32 0 ++ four_bytes 1 ++ four_bytes 3040000
    ++ (5 ∷ 0 ∷ 0 ∷ 0 ∷ 0 ∷ 16 ∷ 0 ∷ 0 ∷ []) ++ four_bytes root ++ replicate 3984 0

-- the page of the locks stands where byte 2 ^ 30 is
unfoldable pub with_lock_page : List ℕ → List ℕ
with_lock_page bytes =
    if nat_le (length bytes) (2 ^ 30) then bytes else take (2 ^ 30) bytes ++ (replicate 4096 0 ++ drop (2 ^ 30) bytes)

-- the trees of tables, behind the first page, and the records of the list of tables
pub record Imaged : Type 0 where
  pub trees : List ℕ
  pub records : List (List ℕ)

abbrev pub no_table : Imaged
no_table = record { trees = []; records = [] }

-- with one table more
abbrev pub with_table : Imaged → List ℕ → List ℕ → TreeBytes → Imaged
with_table before name sql tree =
    record { trees = before.trees ++ tree.bytes; records = before.records ++ record_bytes (list_row name sql tree.root) ∷ [] }

abbrev pub imaged : List Tabled → Imaged
imaged tables = record { trees = trees_bytes 1 tables; records = map record_bytes (listed 1 tables) }

-- the file: the first page, the trees, and that of the list of tables behind them
unfoldable pub image_over : Imaged → List ℕ
image_over parts =
    let base = next_place 1 parts.trees in
    let list = tree_of base parts.records in
    with_lock_page (first_page (number_of (next_place base list.bytes - 1)) (number_of list.root) ++ (parts.trees ++ list.bytes))

abbrev pub image : List Tabled → List ℕ
image tables = image_over (imaged tables)
