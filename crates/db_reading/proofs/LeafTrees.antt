-- Leaves as trees, and how high a tree is.
use Rattle.std.proofs.Common.{◌≡◌, ℕ, zero, suc, ◌+◌, ◌<◌, ◌==◌, ◌||◌, Bool, true, false, if◌then◌else◌, List, [], ◌∷◌, ◌++◌, length, map, flat_map, refl, sym, ◌∙◌, ap, subst, arith, inl, inr}
use Rattle.std.proofs.lemmas.List.{length-map, map-append}
use Rattle.sqlite_format.specs.declared.kind.Tree.TheVariants.{Table}
use Rattle.sqlite_format.specs.Page.{IsPage, page_cells}
use Rattle.sqlite_btree.specs.Part.{Part}
use Rattle.sqlite_btree.specs.Cut.{Each}
use Rattle.sqlite_btree.specs.Items.{Item, cell_item, rows_of}
use Rattle.sqlite_btree.specs.Tree.{IsPageOf, IsTop, IsTree, cells_of, header_of, right_of, top_cells, tree_items}
use Rattle.sqlite_btree.specs.Chain.{Layout, entry_of}
use Rattle.sqlite_btree.specs.Stored.{height_from}
use Rattle.sqlite_btree.proofs.TreeLemmas.{EachChild-last, header_of_other}
use Rattle.db_pages.specs.Laws.{leaf_kind}
use Rattle.db_pages.specs.declared.child.Child.{Child}
use Rattle.db_pages.specs.Numbers.{number_of}
use Rattle.db_reading.specs.Entries.{row_entries}
use Rattle.db_reading.proofs.Groups.{Some-of}
use Rattle.db_reading.proofs.LeafCells.{leaf_entry}
use Rattle.db_reading.proofs.Saying.{IsAmong, IsLeaf, Spans, leaf_cells}
use Rattle.db_reading.proofs.Levels.{Heads, Reached, form, past-first, rows_under}
use Rattle.db_reading.proofs.Rising.{IsRising, Rise, edge, item_rank, leaf-rises}

module _ (order : Item → Item → Bool) (part : Part) where
  pub tree-top : (height page : ℕ) → IsTree (form order part) part height page → IsTop (form order part) part height page
  tree-top zero page tree = (tree.0, tt)
  tree-top (suc height) page tree = (tree.0, tree.1)

  pub top-full : (height page : ℕ) → IsTree (form order part) part height page → 0 < length (top_cells (form order part) part height page)
  top-full zero page tree = tree.2
  top-full (suc height) page tree = tree.2

  -- the height that a reader finds along the last children
  pub height-is : (height fuel page : ℕ) → IsTop (form order part) part height page → height < fuel → height_from fuel part page ≡ height
  height-is height zero page top few = absurd (let no : ⊥ = omega (arith, few) in no)
  height-is zero (suc fuel) page top few =
      ap (λ flag. if (flag == 13) || (flag == 10) then 0 else suc (height_from fuel part (right_of part page))) top.0.sound.flag
  height-is (suc height) (suc fuel) page top few =
      ap (λ flag. if (flag == 13) || (flag == 10) then 0 else suc (height_from fuel part (right_of part page))) top.0.sound.flag
      ∙ ap suc (height-is height fuel (right_of part page)
      (tree-top height (right_of part page) (EachChild-last (IsTree (form order part) part height) (cells_of (form order part) false part page) (right_of part page) top.1))
      (omega (arith, few)))

  pub leaf-heads : (child : Child) → IsLeaf part child → Heads order part 0 child
  leaf-heads child leaf =
      let page : ℕ = number_of child.place in
      let past : 1 < page = past-first child.place leaf.behind in
      let header : header_of page ≡ 0 = header_of_other page past in
      let node : IsPageOf (form order part) true page (part page) =
      record { sound = subst (λ k. IsPage leaf_kind (part page) k) (sym header) leaf.sound; size = leaf.size } in
      let cells : cells_of (form order part) true part page ≡ leaf_cells part child = ap (λ k. page_cells leaf_kind (part page) k) header in
      record { tree = (node, tt, omega (arith, leaf.some, ap length cells), past); small = leaf.small }

  -- the cell of a row as an item
  abbrev pub row_item : List ℕ → Item
  row_item = cell_item (form order part) true

  rows-all : (cells : List (List ℕ)) → rows_of (map row_item cells) ≡ map row_item cells
  rows-all [] = refl
  rows-all (cell ∷ cells) = ap (λ xs. row_item cell ∷ xs) (rows-all cells)

  leaf-items : (child : Child) → IsLeaf part child → tree_items (form order part) part 0 (number_of child.place) ≡ map row_item (leaf_cells part child)
  leaf-items child leaf =
      let page : ℕ = number_of child.place in
      ap (λ k. map row_item (page_cells leaf_kind (part page) k)) (header_of_other page (past-first child.place leaf.behind))

  pub leaves-items : (leaves : List Child) → Each (IsLeaf part) leaves → flat_map (rows_under order part 0) leaves ≡ map row_item (flat_map (leaf_cells part) leaves)
  leaves-items [] all = refl
  leaves-items (child ∷ leaves) all =
      ap (λ xs. rows_of xs ++ flat_map (rows_under order part 0) leaves) (leaf-items child all.0)
      ∙ ap (λ xs. xs ++ flat_map (rows_under order part 0) leaves) (rows-all (leaf_cells part child))
      ∙ ap (λ xs. map row_item (leaf_cells part child) ++ xs) (leaves-items leaves all.1)
      ∙ sym (map-append row_item (leaf_cells part child) (flat_map (leaf_cells part) leaves))

  pub items-entries : (spill : Part) (cells : List (List ℕ)) → map (entry_of Table 4096 spill) (map row_item cells) ≡ map (leaf_entry spill) cells
  items-entries spill [] = refl
  items-entries spill (cell ∷ cells) = ap (λ es. leaf_entry spill cell ∷ es) (items-entries spill cells)

  pub among-some : (place : ℕ) (leaves : List Child) → IsAmong place leaves → Some-of (Reached order part 0 (number_of place)) leaves
  among-some place [] among = absurd among
  among-some place (child ∷ leaves) among = elim among [ inl here ↦ inl (ap number_of (sym here)) | inr there ↦ inr (among-some place leaves there) ]

-- leaves in order rise
pub leaves-rise : (order : Item → Item → Bool) (layout : Layout) (low : ℕ) (leaves : List Child) (high : ℕ) → Each (IsLeaf layout.nodes) leaves → Spans layout low leaves high →
    Rise order layout.nodes 0 low leaves
leaves-rise order layout low [] high all spans = tt
leaves-rise order layout low (child ∷ leaves) high all spans =
    let says : map (leaf_entry layout.spill) (leaf_cells layout.nodes child) ≡ row_entries (low + 1) spans.0 = spans.1 in
    let some : 0 < length spans.0 =
    omega (arith, all.0.some, length-map (leaf_cells layout.nodes child) (leaf_entry layout.spill), ap length says, length-entries (low + 1) spans.0) in
    let rises : IsRising (edge low) (edge (low + length spans.0)) (map item_rank (map (row_item order layout.nodes) (leaf_cells layout.nodes child))) =
    leaf-rises order layout.spill (leaf_cells layout.nodes child) spans.0 low says some (omega (arith, spans.2, all.0.small)) in (
      subst (λ last. IsRising (edge low) (edge last) (map item_rank (tree_items (form order layout.nodes) layout.nodes 0 (number_of child.place)))) (sym spans.2)
          (subst (λ items. IsRising (edge low) (edge (low + length spans.0)) (map item_rank items)) (sym (leaf-items order layout.nodes child all.0)) rises),
      leaves-rise order layout child.last leaves high all.1 spans.3,
    )
  where
    length-entries : (rowid : ℕ) (rows : List (List ℕ)) → length (row_entries rowid rows) ≡ length rows
    length-entries rowid [] = refl
    length-entries rowid (row ∷ rows) = ap suc (length-entries (rowid + 1) rows)
