-- The pages of a table, written by several workers and joined.
use Rattle.std.specs.Prelude.{ℕ, ◌+◌, ◌-◌, ◌*◌, ◌==◌, ◌||◌, Bool, List, [], ◌∷◌, ◌++◌, length, map, if◌then◌else◌}
use Rattle.db_pages.specs.Page.{leaf_page}
use Rattle.db_pages.specs.declared.child.Child.{Child}
use Rattle.csv_source.specs.Lists.{is_empty}
use Rattle.db_pages.specs.Laid.{Laid, ended, next_place, nothing_laid, with_rows}
use Rattle.db_pages.specs.Levels.{levels_pages, root_place}

-- rows laid out behind `base` pages
pub record Filled : Type 0 where
  pub base : ℕ
  pub laid : Laid

abbrev pub filled : ℕ → ℕ → List (List ℕ) → Filled
filled base first rows = record { base = base; laid = with_rows base nothing_laid first rows }

-- pages behind `base` others, and the leaves among them
pub record Grown : Type 0 where
  pub base : ℕ
  pub pages : List ℕ
  pub leaves : List Child

-- what is laid out, with the leaf under way as the last page
abbrev pub closed : Filled → Grown
closed f = let laid = ended f.base f.laid in record { base = f.base; pages = laid.pages; leaves = laid.leaves }

-- rows with the rowids from `first` on, behind `base` pages
abbrev pub grown : ℕ → ℕ → List (List ℕ) → Grown
grown base first rows = closed (filled base first rows)

-- whether pages hold at a place: they were written behind it, or none of them names another
abbrev pub holds_at : ℕ → Grown → Bool
holds_at place g = (g.base == place) || (length g.pages == 4096 * length g.leaves)

-- a leaf written behind some pages, behind others
abbrev pub moved : ℕ → ℕ → Child → Child
moved from to child = record { place = to + (child.place - from); last = child.last }

-- pages behind those before them
abbrev pub behind : Grown → Grown → Grown
behind before next =
    record {
      base = before.base;
      pages = before.pages ++ next.pages;
      leaves = before.leaves ++ map (moved next.base (next_place before.base before.pages)) next.leaves;
    }

-- a table without rows has one leaf
abbrev pub with_leaf : Grown → Grown
with_leaf g =
    if is_empty g.leaves then
    record { base = g.base; pages = g.pages ++ leaf_page []; leaves = (record { place = next_place g.base g.pages; last = 0 }) ∷ [] }
    else g

-- a table: its bytes and the place of its root
pub record TreeBytes : Type 0 where
  pub bytes : List ℕ
  pub root : ℕ

unfoldable pub tree_over : Grown → TreeBytes
tree_over pages =
    let g = with_leaf pages in
    let above = next_place g.base g.pages in
    record { bytes = g.pages ++ levels_pages 6 above g.leaves; root = root_place 6 above g.leaves }

-- the tree of rows with the rowids from one on, behind `base` pages
abbrev pub tree_of : ℕ → List (List ℕ) → TreeBytes
tree_of base rows = tree_over (grown base 1 rows)
