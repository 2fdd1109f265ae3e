-- Trees of rows, as they are read.
use Rattle.std.proofs.Common.{◌≡◌, ◌≢◌, ◌⊎◌, ℕ, ◌+◌, ◌-◌, ◌*◌, ◌/◌, ◌^◌, ◌<◌, ◌≤◌, Bool, true, false, List, [], ◌∷◌, ◌++◌, length, map, flat_map, refl, sym, ◌∙◌, ap, subst, arith, inl, inr, append-nil, length-append, All}
use Rattle.std.proofs.lemmas.Bool.{cases_lt, cond-true, false≢true}
use Rattle.std.proofs.lemmas.List.Elements.{All-nil}
use Rattle.sqlite_pages.specs.PageMap.{PageMap}
use Rattle.sqlite_format.specs.declared.kind.Tree.TheVariants.{Table}
use Rattle.sqlite_format.specs.Cell.{IsCell}
use Rattle.sqlite_format.specs.Page.{IsPage, page_cells}
use Rattle.sqlite_btree.specs.Part.{Part, all_pages}
use Rattle.sqlite_btree.specs.Cut.{Ascends, Each}
use Rattle.sqlite_btree.specs.Items.{Item, rows_of}
use Rattle.sqlite_btree.specs.Tree.{IsPageOf, IsTop, Reaches, cells_of, header_of, top_cells, tree_items}
use Rattle.sqlite_btree.specs.Chain.{Entry, Layout, entry_of}
use Rattle.sqlite_btree.specs.Stored.{entries_at, form_of, no_order}
use Rattle.sqlite_btree.proofs.TreeLemmas.{header_of_other}
use Rattle.db_pages.specs.Laws.{HoldsCells, leaf_kind}
use Rattle.db_pages.specs.Page.{leaf_page}
use Rattle.db_pages.proofs.Pages.{leaf-holds, length-leaf_page}
use Rattle.db_pages.specs.declared.child.Child.{Child}
use Rattle.db_pages.specs.Grown.{Grown, TreeBytes, grown, tree_of, tree_over, with_leaf}
use Rattle.csv_source.specs.Lists.{is_empty}
use Rattle.db_pages.specs.Laid.{Laid, ended, next_place, nothing_laid, with_rows}
use Rattle.db_pages.specs.Levels.{levels_pages, root_place}
use Rattle.db_pages.specs.Numbers.{number_of}
use Rattle.db_pages.proofs.Closed.{some_leaf}
use Rattle.db_pages.proofs.Counted.{AllShort, Adds, Counts, end-counts, nothing-counts, rows-add}
use Rattle.db_reading.specs.Entries.{row_entries}
use Rattle.db_reading.specs.Pages.{Stand}
use Rattle.db_reading.proofs.Each.{each-so}
use Rattle.db_reading.proofs.LeafCells.{leaf_entry}
use Rattle.db_reading.proofs.Saying.{AreAllowed, Holds, IsAmong, IsChainedCell, IsLeaf, IsLinked, Says, all_cells, leaf_cells, nothing-holds}
use Rattle.db_reading.proofs.Leaves.{end-holds, none-left, rows-hold}
use Rattle.db_reading.proofs.Levels.{Heads, Root, form, levels-root, past-first}
use Rattle.db_reading.proofs.Rising.{by_rank}
use Rattle.db_reading.proofs.Roles.{IsPlaced, Lies, Role}
use Rattle.db_reading.proofs.Standing.{each-front, each-next, each-page, number-least}
use Rattle.db_reading.proofs.LeafTrees.{among-some, height-is, items-entries, leaf-heads, leaves-items, leaves-rise, row_item, top-full, tree-top}

-- a tree of rows, whose pages lie in a layout by their roles
pub record TreeReads (order : Item → Item → Bool) (layout : Layout) (role : Role) (base : ℕ) (bytes : List ℕ) (place : ℕ) (entries : List Entry) : Type 0 where
  pub tall : ℕ
  pub shallow : tall < 19
  pub top : IsTop (form order layout.nodes) layout.nodes tall (number_of place)
  pub full : (tall ≡ 0) ⊎ (0 < length (top_cells (form order layout.nodes) layout.nodes tall (number_of place)))
  pub ascends : Ascends by_rank (tree_items (form order layout.nodes) layout.nodes tall (number_of place))
  pub cells : List (List ℕ)
  pub rows : rows_of (tree_items (form order layout.nodes) layout.nodes tall (number_of place)) ≡ map (row_item order layout.nodes) cells
  pub says : map (leaf_entry layout.spill) cells ≡ entries
  pub chained : AreAllowed entries → Each (IsChainedCell layout) cells
  pub nodes : (k : ℕ) → 4096 * (k + 1) ≤ length bytes → role (number_of (base + k)) ≡ [] →
      Reaches (form order layout.nodes) layout.nodes tall (number_of place) (number_of (base + k))
  pub links : (k : ℕ) → 4096 * (k + 1) ≤ length bytes → role (number_of (base + k)) ≢ [] → IsLinked layout cells (number_of (base + k))

-- the pages of leaves and those above them
abbrev over : Grown → TreeBytes
over g =
    record { bytes = g.pages ++ levels_pages 6 (next_place g.base g.pages) g.leaves; root = root_place 6 (next_place g.base g.pages) g.leaves }

tree-over : (g : Grown) → tree_over g ≡ over (with_leaf g)
unfolding tree_over
tree-over g = refl

empty-leaves : (leaves : List Child) → is_empty leaves ≡ true → leaves ≡ []
empty-leaves [] is = refl
empty-leaves (child ∷ leaves) is = absurd (false≢true is)

some-leaves : (leaves : List Child) → is_empty leaves ≡ false → 0 < length leaves
some-leaves [] is = absurd (false≢true (sym is))
some-leaves (child ∷ leaves) is = omega arith

module _ (base : ℕ) (rows : List (List ℕ)) (past : 0 < base) (some : All (λ row. 1 < length row) rows) where
  abbrev laid : Laid
  laid = ended base (with_rows base nothing_laid 1 rows)

  pub holds : Holds base laid (0 + length rows) (row_entries 1 rows)
  holds = end-holds base past (with_rows base nothing_laid 1 rows) (0 + length rows) (row_entries 1 rows) (rows-hold base past rows nothing_laid 0 1 [] refl some (nothing-holds base))

  leaves-few : 4096 * length laid.leaves ≤ length laid.pages
  leaves-few =
      let a : Adds (with_rows base nothing_laid 1 rows) 0 (AllShort rows) = rows-add base rows nothing_laid 1 0 nothing-counts in
      let c : Counts laid (0 + a.added) = end-counts base (with_rows base nothing_laid 1 rows) (0 + a.added) a.counts in
      omega (arith, c.pages-are)

  -- the tree's pages are those of the rows and others behind them, with a leaf more where there is none
  by-pages : (P : TreeBytes → Type 0) → (is_empty laid.leaves ≡ false → P (over (grown base 1 rows))) →
      (is_empty laid.leaves ≡ true → P (over (record { base = base; pages = laid.pages ++ leaf_page []; leaves = (record { place = next_place base laid.pages; last = 0 }) ∷ [] }))) →
      P (tree_of base rows)
  by-pages P with-leaves without = subst P (sym (tree-over (grown base 1 rows))) (by-leaves (is_empty laid.leaves) refl)
    where
      added : Grown
      added = record { base = base; pages = laid.pages ++ leaf_page []; leaves = (record { place = next_place base laid.pages; last = 0 }) ∷ [] }

      by-leaves : (test : Bool) → is_empty laid.leaves ≡ test → P (over (with_leaf (grown base 1 rows)))
      by-leaves false is = subst (λ g. P (over g)) (some_leaf (grown base 1 rows) is) (with-leaves is)
      by-leaves true is = subst (λ g. P (over g)) (sym (cond-true (is_empty laid.leaves) added (grown base 1 rows) is)) (without is)

  pages-within : length laid.pages ≤ length (tree_of base rows).bytes
  pages-within =
      by-pages (λ (tree : TreeBytes). length laid.pages ≤ length tree.bytes)
      (λ _. omega (arith, length-append laid.pages (levels_pages 6 (next_place base laid.pages) laid.leaves)))
      (λ _. omega (arith, ap length (append-nil (laid.pages ++ leaf_page [])), length-append laid.pages (leaf_page [])))

  -- a tree has more bytes than rows, and nearly those of each record
  pub rows-few : length rows ≤ length (tree_of base rows).bytes
  rows-few = omega (arith, holds.few, ap length (none-left base past (with_rows base nothing_laid 1 rows)), pages-within)

  pub rows-short : All (λ (e : Entry). length e.payload ≤ length (tree_of base rows).bytes + 4061) (row_entries 1 rows)
  rows-short = λ k d lt. omega (arith, holds.short k d lt, pages-within)

  -- the roles of its pages
  abbrev pub tree-role : Role
  tree-role = holds.role

  module _ (order : Item → Item → Bool) where
    abbrev Reads : TreeBytes → Type 0
    Reads tree = (layout : Layout) → length tree.bytes < 2 ^ 50 → Lies layout holds.role base tree.bytes → TreeReads order layout holds.role base tree.bytes tree.root (row_entries 1 rows)

    some-read : is_empty laid.leaves ≡ false → Reads (over (grown base 1 rows))
    some-read are layout short lies =
        let role : Role = holds.role in
        let Placed : ℕ → List ℕ → Type 0 = λ number p. IsPlaced layout (role number) number p in
        let leaves : List Child = laid.leaves in
        let above : ℕ = next_place base laid.pages in
        let levels : List ℕ = levels_pages 6 above leaves in
        let longer : length (laid.pages ++ levels) ≡ length laid.pages + length levels = length-append laid.pages levels in
        let s : Says layout role base laid (row_entries 1 rows) = holds.says layout (each-front Placed base laid.pages levels lies) (omega (arith, longer, short)) in
        let none : laid.cells ≡ [] = none-left base past (with_rows base nothing_laid 1 rows) in
        let cells : List (List ℕ) = flat_map (leaf_cells layout.nodes) leaves in
        let all : all_cells layout.nodes leaves laid.cells ≡ cells = ap (λ cs. cells ++ cs) none ∙ append-nil cells in
        let behind : (j : ℕ) → role (number_of (above + j)) ≡ [] = λ j. holds.fresh (number_of (above + j)) (number-least above j) in
        let stand : Stand layout.nodes above levels = λ k within. (each-next Placed base laid.pages levels holds.whole lies k within).node (behind k) in
        let heads : Each (Heads order layout.nodes 0) leaves = each-so (IsLeaf layout.nodes) (Heads order layout.nodes 0) (leaf-heads order layout.nodes) leaves s.leaves in
        let r : Root order layout.nodes 0 6 leaves above levels (root_place 6 above leaves) =
        levels-root order layout.nodes 6 0 above leaves (some-leaves leaves are) (omega (arith, leaves-few, longer, short)) (omega (arith, past)) heads stand in
        let root : ℕ = number_of (root_place 6 above leaves) in
        record {
          tall = r.tall;
          shallow = omega (arith, r.shallow);
          top = tree-top order layout.nodes r.tall root r.tree;
          full = inr (top-full order layout.nodes r.tall root r.tree);
          ascends = r.ascends 0 (leaves-rise order layout 0 leaves s.order.high s.leaves s.order.leaves);
          cells = cells;
          rows = r.rows ∙ leaves-items order layout.nodes leaves s.leaves;
          says = ap (map (leaf_entry layout.spill)) (sym all) ∙ s.read;
          chained = λ allowed. subst (Each (IsChainedCell layout)) all (s.chained allowed);
          nodes = λ k within is.
              elim (cases_lt k (length laid.pages / 4096)) [
                | inl low ↦ r.reach (number_of (base + k)) (among-some order layout.nodes (base + k) leaves (holds.leafy k (omega (arith, low)) is))
                | inr high ↦
                    let j : ℕ = k - length laid.pages / 4096 in
                    let e : above + j ≡ base + k = omega (arith, high) in
                    subst (λ p. Reaches (form order layout.nodes) layout.nodes r.tall root (number_of p)) e (r.pages j (omega (arith, within, longer, high, holds.whole)))
              ];
          links = λ k within is.
              elim (cases_lt k (length laid.pages / 4096)) [
                | inl low ↦ subst (λ cs. IsLinked layout cs (number_of (base + k))) all (s.links k (omega (arith, low)) is)
                | inr high ↦
                    let j : ℕ = k - length laid.pages / 4096 in
                    let e : above + j ≡ base + k = omega (arith, high) in
                    absurd (is (ap (λ p. role (number_of p)) (sym e) ∙ behind j))
              ];
        }

    none-read : is_empty laid.leaves ≡ true → Reads (over (record { base = base; pages = laid.pages ++ leaf_page []; leaves = (record { place = next_place base laid.pages; last = 0 }) ∷ [] }))
    none-read are layout short lies =
        let role : Role = holds.role in
        let Placed : ℕ → List ℕ → Type 0 = λ number p. IsPlaced layout (role number) number p in
        let place : ℕ = next_place base laid.pages in
        let root : ℕ = number_of place in
        let page : List ℕ = leaf_page [] in
        let size : length page ≡ 4096 = length-leaf_page [] (omega arith) in
        let lies′ : Lies layout role base (laid.pages ++ page) = subst (Lies layout role base) (append-nil (laid.pages ++ page)) lies in
        let longer : length ((laid.pages ++ page) ++ []) ≡ length laid.pages + length page = ap length (append-nil (laid.pages ++ page)) ∙ length-append laid.pages page in
        let s : Says layout role base laid (row_entries 1 rows) = holds.says layout (each-front Placed base laid.pages page lies′) (omega (arith, longer, short)) in
        let none : laid.cells ≡ [] = none-left base past (with_rows base nothing_laid 1 rows) in
        let nothing : laid.leaves ≡ [] = empty-leaves laid.leaves are in
        let all : all_cells layout.nodes laid.leaves laid.cells ≡ [] = ap (λ cs. flat_map (leaf_cells layout.nodes) laid.leaves ++ cs) none ∙ ap (λ (ls : List Child). flat_map (leaf_cells layout.nodes) ls ++ []) nothing in
        let node : role root ≡ [] = holds.fresh root (omega arith) in
        let here : layout.nodes root ≡ page = (each-page Placed place page size (each-next Placed base laid.pages page holds.whole lies′)).node node in
        let header : header_of root ≡ 0 = header_of_other root (past-first place (omega (arith, past))) in
        let sound : HoldsCells leaf_kind page [] = leaf-holds [] (All-nil (IsCell leaf_kind 4096)) (omega arith) in
        let is-page : IsPageOf (form order layout.nodes) true root (layout.nodes root) = record {
          sound = subst (λ k. IsPage leaf_kind (layout.nodes root) k) (sym header) (subst (λ p. IsPage leaf_kind p 0) (sym here) sound.sound);
          size = ap length here ∙ size;
        } in
        let cells : cells_of (form order layout.nodes) true layout.nodes root ≡ [] =
        ap (λ k. page_cells leaf_kind (layout.nodes root) k) header ∙ ap (λ p. page_cells leaf_kind p 0) here ∙ sound.found in
        let items : tree_items (form order layout.nodes) layout.nodes 0 root ≡ [] = ap (map (row_item order layout.nodes)) cells in
        record {
          tall = 0;
          shallow = omega arith;
          top = (is-page, tt);
          full = inl refl;
          ascends = subst (Ascends by_rank) (sym items) tt;
          cells = [];
          rows = ap rows_of items;
          says = ap (map (leaf_entry layout.spill)) (sym all) ∙ s.read;
          chained = λ allowed. tt;
          nodes = λ k within is.
              elim (cases_lt k (length laid.pages / 4096)) [
                | inl low ↦ absurd (subst (IsAmong (base + k)) nothing (holds.leafy k (omega (arith, low)) is))
                | inr high ↦ (let e : base + k ≡ place = omega (arith, within, longer, size, high, holds.whole) in ap number_of e)
              ];
          links = λ k within is.
              elim (cases_lt k (length laid.pages / 4096)) [
                | inl low ↦ subst (λ cs. IsLinked layout cs (number_of (base + k))) all (s.links k (omega (arith, low)) is)
                | inr high ↦ (let e : place ≡ base + k = omega (arith, within, longer, size, high, holds.whole) in absurd (is (ap (λ p. role (number_of p)) (sym e) ∙ node)))
              ];
        }

    pub tree-reads : Reads (tree_of base rows)
    tree-reads = by-pages Reads some-read none-read

-- the pages of a file as a layout: those in which rows go on aren't told from the others
abbrev pub whole_layout : Part → Role → Layout
whole_layout part role = record { nodes = part; spill = part; owner = role }

pub whole-lies : (part : Part) (role : Role) (place : ℕ) (bytes : List ℕ) → Stand part place bytes → Lies (whole_layout part role) role place bytes
whole-lies part role place bytes stand = λ k within. record { node = λ _. stand k within; link = λ _. (stand k within, refl) }

pub entries-read : (pages : PageMap) (role : Role) (base : ℕ) (bytes : List ℕ) (place : ℕ) (entries : List Entry) →
    TreeReads by_rank (whole_layout (all_pages pages) role) role base bytes place entries → entries_at Table 4096 pages (number_of place) ≡ entries
unfolding entries_at
entries-read pages role base bytes place entries t =
    let part : Part = all_pages pages in
    let root : ℕ = number_of place in
    ap (λ h. map (entry_of Table 4096 part) (rows_of (tree_items (form_of Table no_order 4096 part) part h root))) (height-is by_rank part t.tall 20 root t.top (omega (arith, t.shallow)))
    ∙ ap (map (entry_of Table 4096 part)) t.rows ∙ items-entries by_rank part part t.cells ∙ t.says

-- the root of a tree, where a reader finds it, and the rows under it
pub record Found (pages : PageMap) (root : ℕ) (entries : List Entry) : Type 0 where
  pub size : length (all_pages pages root) ≡ 4096
  pub read : entries_at Table 4096 pages root ≡ entries

pub tree-found : (pages : PageMap) (base : ℕ) (rows : List (List ℕ)) → 0 < base → All (λ row. 1 < length row) rows → length (tree_of base rows).bytes < 2 ^ 50 →
    Stand (all_pages pages) base (tree_of base rows).bytes → Found pages (number_of (tree_of base rows).root) (row_entries 1 rows)
tree-found pages base rows past some short stand =
    let part : Part = all_pages pages in
    let tree : TreeBytes = tree_of base rows in
    let role : Role = tree-role base rows past some in
    let t : TreeReads by_rank (whole_layout part role) role base tree.bytes tree.root (row_entries 1 rows) =
    tree-reads base rows past some by_rank (whole_layout part role) short (whole-lies part role base tree.bytes stand) in
    record { size = t.top.0.size; read = entries-read pages role base tree.bytes tree.root (row_entries 1 rows) t }

pub tree-reads-back : (pages : PageMap) (base : ℕ) (rows : List (List ℕ)) → 0 < base → All (λ row. 1 < length row) rows → length (tree_of base rows).bytes < 2 ^ 50 →
    Stand (all_pages pages) base (tree_of base rows).bytes → entries_at Table 4096 pages (number_of (tree_of base rows).root) ≡ row_entries 1 rows
tree-reads-back pages base rows past some short stand = (tree-found pages base rows past some short stand).read
