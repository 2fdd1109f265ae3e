-- Pages that are written read back, by the reader of the kit's own crates.
use Rattle.std.specs.Prelude.{◌≡◌, ℕ, ◌<◌, ◌^◌, false, List, ◌++◌, drop, length, All}
use Rattle.sqlite_format.specs.declared.kind.Kind.{Kind}
use Rattle.sqlite_format.specs.declared.kind.Tree.TheVariants.{Table}
use Rattle.sqlite_format.specs.Cell.{IsCell, body_key, cell_body, cell_child, flip_sign, local_len}
use Rattle.sqlite_format.specs.Page.{right_child}
use Rattle.sqlite_pages.specs.PageMap.{PageMap}
use Rattle.sqlite_btree.specs.Part.{Part, all_pages}
use Rattle.sqlite_btree.specs.Chain.{payload_in}
use Rattle.sqlite_btree.specs.Stored.{entries_at}
use Rattle.db_pages.specs.Laws.{HoldsCells}
use Rattle.db_records.specs.Varint.{varint}
use Rattle.db_pages.specs.declared.child.Child.{Child}
use Rattle.db_pages.specs.Grown.{tree_of}
use Rattle.db_pages.specs.Image.{Tabled, image}
use Rattle.db_pages.specs.Laid.{chain, long_cell}
use Rattle.db_pages.specs.Levels.{dividers, last_child, page_above}
use Rattle.db_pages.specs.Numbers.{four_bytes, number_of}
use Rattle.db_reading.specs.Entries.{row_entries}
use Rattle.db_reading.specs.Pages.{Stand}
use Rattle.db_reading.specs.Tables.{HoldsTables, IsStorable}
use Rattle.db_reading.specs.Whole.{IsAllowed, IsWholeDatabase}

-- a page above others of a table
abbrev pub inner_kind : Kind
inner_kind = record { tree = Table; leaf = false }

-- the cell of a page above others: the number of one of them, and the last rowid under it
pub record Divides (cell : List ℕ) (number last : ℕ) : Type 0 where
  pub whole : IsCell inner_kind 4096 cell
  pub child : cell_child cell ≡ number
  pub key : body_key Table false (cell_body inner_kind 4096 cell) ≡ flip_sign last

abbrev pub DividerReadsBack : Type 0
DividerReadsBack = (number last : ℕ) → last < 2 ^ 56 → Divides (four_bytes number ++ varint last) number last

-- a page above others holds their cells and names the last of them on its right
pub record HoldsChildren (page : List ℕ) (children : List Child) : Type 0 where
  pub cells : HoldsCells inner_kind page (dividers children)
  pub right : right_child page 0 ≡ number_of (last_child children).place

abbrev pub PageReadsBack : Type 0
PageReadsBack = (children : List Child) → length children < 256 → All (λ child. child.last < 2 ^ 56) children → HoldsChildren (page_above children) children

-- a record that goes on in other pages, where these stand in a file
abbrev pub ChainReadsBack : Type 0
ChainReadsBack =
    (part : Part) (place rowid : ℕ) (row : List ℕ) → rowid < 2 ^ 56 → length row < 2 ^ 56 → 4061 < length row →
    Stand part place (chain (length row) place (drop (local_len Table 4096 (length row)) row)) → payload_in Table 4096 part (long_cell place rowid row) ≡ row

-- the rows of a tree, each by its rowid and its record, where the tree stands in a file
abbrev pub TreeReadsBack : Type 0
TreeReadsBack =
    (pages : PageMap) (base : ℕ) (rows : List (List ℕ)) → 0 < base → All (λ row. 1 < length row) rows → length (tree_of base rows).bytes < 2 ^ 50 →
    Stand (all_pages pages) base (tree_of base rows).bytes → entries_at Table 4096 pages (number_of (tree_of base rows).root) ≡ row_entries 1 rows

-- a database of tables holds them
abbrev pub ImageReadsBack : Type 0
ImageReadsBack =
    (tables : List Tabled) → All (λ (table : Tabled). All IsStorable table.rows) tables → length (image tables) < 2 ^ 50 → HoldsTables (image tables) tables

-- and its trees are whole: of equal height, with rowids that rise, and no page twice or lost
abbrev pub ImageIsWhole : Type 0
ImageIsWhole =
    (tables : List Tabled) → All (λ (table : Tabled). All IsStorable table.rows) tables → All IsAllowed tables → length (image tables) < 2 ^ 50 →
    IsWholeDatabase (image tables) tables
