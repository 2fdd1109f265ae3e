-- The first page of a file, as it is read.
use Rattle.std.proofs.Common.{◌≡◌, ℕ, suc, ◌==◌, ◌||◌, false, if◌then◌else◌, List, [], length, map, get_or, refl, ◌∙◌, ap}
use Rattle.sqlite_pages.specs.PageMap.{PageMap}
use Rattle.sqlite_format.specs.declared.kind.Tree.TheVariants.{Table}
use Rattle.sqlite_format.specs.Page.{cell_count, cell_offset, page_cells, right_child}
use Rattle.sqlite_btree.specs.Part.{Part, all_pages}
use Rattle.sqlite_btree.specs.Items.{rows_of}
use Rattle.sqlite_btree.specs.Tree.{cells_of, fan_items, header_of, right_of, tree_items}
use Rattle.sqlite_btree.specs.Chain.{Entry, entry_of}
use Rattle.sqlite_btree.specs.Stored.{entries_at, height_from}
use Rattle.db_pages.specs.Image.{first_page}
use Rattle.db_pages.specs.Numbers.{number_of}
use Rattle.db_reading.specs.Laws.{inner_kind}
use Rattle.db_reading.proofs.Inner.{four-read}
use Rattle.db_reading.proofs.Levels.{form}
use Rattle.db_reading.proofs.Rising.{by_rank}
use Rattle.db_reading.proofs.Roles.{Role}
use Rattle.db_reading.proofs.LeafTrees.{height-is, items-entries}
use Rattle.db_reading.proofs.Trees.{TreeReads, whole_layout}

pub first-size : (count root : ℕ) → length (first_page count root) ≡ 4096
unfolding first_page
first-size count root = refl

first-flag : (count root : ℕ) → get_or (first_page count root) 100 0 ≡ 5
unfolding first_page
first-flag count root = refl

pub first-right : (count root : ℕ) → right_child (first_page count root) 100 ≡ root
unfolding first_page right_child
first-right count root = four-read root

first-cells : (count root : ℕ) → page_cells inner_kind (first_page count root) 100 ≡ []
unfolding first_page page_cells cell_count cell_offset
first-cells count root = refl

pub first-header : header_of 1 ≡ 100
unfolding header_of
first-header = refl

-- what stands under the root of the list of tables stands under the first page
pub first-reads : (pages : PageMap) (role : Role) (base : ℕ) (bytes : List ℕ) (count place : ℕ) (entries : List Entry) → all_pages pages 1 ≡ first_page count (number_of place) →
    TreeReads by_rank (whole_layout (all_pages pages) role) role base bytes place entries → entries_at Table 4096 pages 1 ≡ entries
unfolding entries_at
first-reads pages role base bytes count place entries is t =
    let part : Part = all_pages pages in
    let root : ℕ = number_of place in
    let flag : get_or (part 1) (header_of 1) 0 ≡ 5 = ap (λ k. get_or (part 1) k 0) first-header ∙ ap (λ p. get_or p 100 0) is ∙ first-flag count root in
    let right : right_of part 1 ≡ root = ap (λ k. right_child (part 1) k) first-header ∙ ap (λ p. right_child p 100) is ∙ first-right count root in
    let cells : cells_of (form by_rank part) false part 1 ≡ [] =
    ap (λ k. page_cells inner_kind (part 1) k) first-header ∙ ap (λ p. page_cells inner_kind p 100) is ∙ first-cells count root in
    let tall : height_from 20 part 1 ≡ suc t.tall =
    ap (λ f. if (f == 13) || (f == 10) then 0 else suc (height_from 19 part (right_of part 1))) flag
    ∙ ap (λ n. suc (height_from 19 part n)) right ∙ ap suc (height-is by_rank part t.tall 19 root t.top t.shallow) in
    ap (λ h. map (entry_of Table 4096 part) (rows_of (tree_items (form by_rank part) part h 1))) tall
    ∙ ap (λ cs. map (entry_of Table 4096 part) (rows_of (fan_items (form by_rank part) (tree_items (form by_rank part) part t.tall) cs (right_of part 1)))) cells
    ∙ ap (λ n. map (entry_of Table 4096 part) (rows_of (tree_items (form by_rank part) part t.tall n))) right
    ∙ ap (map (entry_of Table 4096 part)) t.rows ∙ items-entries by_rank part part t.cells ∙ t.says
