-- What holds of pages, whoever wrote them.
use Rattle.std.specs.Prelude.{◌≡◌, ℕ, ◌+◌, ◌*◌, ◌%◌, ◌≤◌, true, List, [], ◌∷◌, ◌++◌, length, map, All}
use Rattle.sqlite_format.specs.declared.kind.Kind.{Kind}
use Rattle.sqlite_format.specs.declared.kind.Tree.TheVariants.{Table}
use Rattle.sqlite_format.specs.Cell.{IsCell}
use Rattle.sqlite_format.specs.Page.{page_cells, IsPage}
use Rattle.db_records.specs.Record.{record_bytes}
use Rattle.db_pages.specs.Laid.{next_place}
use Rattle.db_pages.specs.Grown.{behind, grown, holds_at, tree_of}
use Rattle.db_pages.specs.Image.{Tabled, imaged, with_table}
use Rattle.db_pages.specs.Page.{joined, leaf_page}

-- two groups of rows, the first of whole blocks, join to the pages of all rows, where those of the second hold behind the first
abbrev pub GroupsJoin : Type 0
GroupsJoin =
    (base first from : ℕ) (rows more : List (List ℕ)) → (first + length rows) % 8192 ≡ 1 →
    holds_at (next_place base (grown base first rows).pages) (grown from (first + length rows) more) ≡ true →
    behind (grown base first rows) (grown from (first + length rows) more) ≡ grown base first (rows ++ more)

-- a table whose tree is written behind those of others is one more of them
abbrev pub TablesFollow : Type 0
TablesFollow =
    (tables : List Tabled) (table : Tabled) →
    with_table (imaged tables) table.name table.sql (tree_of (next_place 1 (imaged tables).trees) (map record_bytes table.rows)) ≡ imaged (tables ++ table ∷ [])

-- a leaf of a table
abbrev pub leaf_kind : Kind
leaf_kind = record { tree = Table; leaf = true }

-- a page of a kind that has the right size, in which the cells are found, and which is well formed: its cells share no byte, and none is lost
pub record HoldsCells (kind : Kind) (page : List ℕ) (cells : List (List ℕ)) : Type 0 where
  pub size : length page ≡ 4096
  pub found : page_cells kind page 0 ≡ cells
  pub sound : IsPage kind page 0

abbrev pub LeafReadsBack : Type 0
LeafReadsBack = (cells : List (List ℕ)) → All (IsCell leaf_kind 4096) cells → 8 + 2 * length cells + length (joined cells) ≤ 4096 → HoldsCells leaf_kind (leaf_page cells) cells
