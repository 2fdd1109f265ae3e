-- Trees with no page twice and none lost, in the words of the kit's crates.
use Rattle.std.specs.Prelude.{◌≡◌, ◌↔◌, ◌⊎◌, ℕ, ◌+◌, ◌*◌, ◌^◌, ◌<◌, ◌≤◌, List, [], ◌∷◌, length, map, All, IsSome}
use Rattle.sqlite_pages.specs.PageMap.{PageMap}
use Rattle.sqlite_btree.specs.Part.{all_pages}
use Rattle.sqlite_btree.specs.Tree.{right_of}
use Rattle.sqlite_btree.specs.Chain.{Layout}
use Rattle.sqlite_btree.specs.Stored.{IsLaidIn, IsTable, Owns}
use Rattle.db_records.specs.Record.{record_bytes}
use Rattle.db_pages.specs.Image.{Tabled}
use Rattle.db_pages.specs.Numbers.{number_of}
use Rattle.db_reading.specs.Pages.{file_pages}
use Rattle.db_reading.specs.Tables.{HoldsTables, list_rows, numbered}

-- the number of a page from one place on, before another
abbrev pub IsSpanned : ℕ → ℕ → ℕ → Type 0
IsSpanned first next number = (place : ℕ) × (first ≤ place) × (place < next) × (number ≡ number_of place)

-- the tree under a root holds these records, and has the pages from one place on, before another, each once and no other
pub record HasTable (pages : PageMap) (first next root : ℕ) (rows : List (List ℕ)) : Type 0 where
  pub layout : Layout
  pub table : IsTable 4096 layout root (numbered 1 rows)
  pub laid : IsLaidIn layout pages
  pub own : (number : ℕ) → Owns layout number ↔ IsSpanned first next number

-- a table whose records SQLite allows, and that of its row in the list of tables
pub record IsAllowed (table : Tabled) : Type 0 where
  pub rows : All (λ row. length (record_bytes row) < 2 ^ 31) table.rows
  pub listed : 2 * length table.name + length table.sql < 2 ^ 30

-- the trees of tables stand one behind another, each under its root
abbrev pub AreTables : List ℕ → ℕ → List Tabled → List ℕ → ℕ → Type 0
AreTables file first [] [] last = first ≡ last
AreTables file first [] (root ∷ roots) last = ⊥
AreTables file first (table ∷ tables) [] last = ⊥
AreTables file first (table ∷ tables) (root ∷ roots) last =
    (next : ℕ) × HasTable (file_pages file) first next root (map record_bytes table.rows) × AreTables file next tables roots last

-- a file that is the first page, that of the locks, the trees of tables and behind them that of their list, and nothing else
pub record IsWholeDatabase (file : List ℕ) (tables : List Tabled) : Type 0 where
  pub holds : HoldsTables file tables
  pub behind : ℕ
  pub trees : AreTables file 1 tables holds.roots behind
  pub end : ℕ
  pub root : ℕ
  pub list : HasTable (file_pages file) behind end root (map record_bytes (list_rows tables holds.roots))
  pub leads : right_of (all_pages (file_pages file)) 1 ≡ root
  pub pages : (number : ℕ) → IsSome (file_pages file number) → (number ≡ 1) ⊎ ((number ≡ 262145) ⊎ IsSpanned 1 end number)
