-- Trees that are whole.
use Rattle.std.proofs.Common.{◌≡◌, ℕ, ◌+◌, ◌-◌, ◌*◌, ◌^◌, ◌<◌, ◌≤◌, pos, Bool, true, false, List, [], ◌∷◌, length, map, drop, refl, sym, ◌∙◌, ap, subst, arith, inl, inr, length-drop, length-take-le, All}
use Rattle.std.proofs.lemmas.List.Elements.{All-cons, All-head, All-nil, All-tail}
use Rattle.sqlite_pages.specs.PageMap.{PageMap}
use Rattle.sqlite_format.specs.declared.kind.Tree.TheVariants.{Table}
use Rattle.sqlite_btree.specs.Part.{all_pages}
use Rattle.sqlite_btree.specs.Cut.{Each, IsIn}
use Rattle.sqlite_btree.specs.Items.{Item, item, rows_of}
use Rattle.sqlite_btree.specs.Tree.{IsTop, Reaches, tree_items}
use Rattle.sqlite_btree.specs.Chain.{Entry, IsChained, IsLinkAmong, Layout, entry_of}
use Rattle.sqlite_btree.specs.Stored.{IsStored, IsTight, Owns, as_row, no_order, unordered}
use Rattle.sqlite_btree.proofs.CutLemmas.{from_rows}
use Rattle.db_pages.specs.Grown.{tree_of}
use Rattle.db_pages.specs.Laid.{next_place}
use Rattle.db_pages.specs.Numbers.{number_of}
use Rattle.db_pages.proofs.WholeTrees.{tree-whole}
use Rattle.db_reading.specs.Entries.{row_entries, row_entry}
use Rattle.db_reading.specs.Pages.{Stand, page_at}
use Rattle.db_reading.specs.Tables.{numbered}
use Rattle.db_reading.specs.Whole.{HasTable, IsSpanned}
use Rattle.db_reading.proofs.Layouts.{apart, laid-in, link-out, node-out, owned, placed, tree_layout}
use Rattle.db_reading.proofs.Saying.{AreAllowed, IsChainedCell, IsLinked}
use Rattle.db_reading.proofs.Levels.{form}
use Rattle.db_reading.proofs.Records.{rowid-is}
use Rattle.db_reading.proofs.Rising.{by_rank}
use Rattle.db_reading.proofs.Roles.{Lies, Role}
use Rattle.db_reading.proofs.LeafTrees.{height-is, items-entries, row_item}
use Rattle.db_reading.proofs.Trees.{TreeReads, rows-few, tree-reads, tree-role}

module _ (order : Item → Item → Bool) (layout : Layout) where
  -- what isn't a row has no chain
  chained-rows : (items : List Item) → Each (IsChained (form order layout.nodes) layout) (rows_of items) → Each (IsChained (form order layout.nodes) layout) items
  chained-rows [] all = tt
  chained-rows (item true body ∷ items) all = (all.0, chained-rows items all.1)
  chained-rows (item false body ∷ items) all = ((λ is. absurd (let no : ⊥ = cc in no)), chained-rows items all)

  chained-cells : (cells : List (List ℕ)) → Each (IsChainedCell layout) cells → Each (IsChained (form order layout.nodes) layout) (map (row_item order layout.nodes) cells)
  chained-cells [] all = tt
  chained-cells (cell ∷ cells) all = ((λ is. all.0), chained-cells cells all.1)

  in-items : (cell : List ℕ) (cells : List (List ℕ)) → IsIn cell cells → IsIn (row_item order layout.nodes cell) (map (row_item order layout.nodes) cells)
  in-items cell [] among = absurd among
  in-items cell (first ∷ cells) among = elim among [ inl here ↦ inl (ap (row_item order layout.nodes) here) | inr there ↦ inr (in-items cell cells there) ]

rows-shown : (rowid : ℕ) (rows : List (List ℕ)) → rowid + length rows < 2 ^ 63 → map as_row (row_entries rowid rows) ≡ numbered rowid rows
rows-shown rowid [] few = refl
rows-shown rowid (row ∷ rows) few =
    ap (λ n. (n, row) ∷ map as_row (row_entries (rowid + 1) rows)) (rowid-is rowid (omega (arith, few))) ∙ ap (λ xs. (pos rowid, row) ∷ xs) (rows-shown (rowid + 1) rows (omega (arith, few)))

allowed-entries : (rowid : ℕ) (rows : List (List ℕ)) → All (λ row. length row < 2 ^ 31) rows → AreAllowed (row_entries rowid rows)
allowed-entries rowid [] small = All-nil (λ (e : Entry). length e.payload < 2 ^ 31)
allowed-entries rowid (row ∷ rows) small =
    All-cons (λ (e : Entry). length e.payload < 2 ^ 31) (row_entry rowid row) (row_entries (rowid + 1) rows) (All-head (λ r. length r < 2 ^ 31) row rows small)
    (allowed-entries (rowid + 1) rows (All-tail (λ r. length r < 2 ^ 31) row rows small))

page-size : (bytes : List ℕ) (k : ℕ) → 4096 * (k + 1) ≤ length bytes → length (page_at bytes k) ≡ 4096
page-size bytes k within = length-take-le 4096 (drop (4096 * k) bytes) (omega (arith, within, length-drop (4096 * k) bytes))

module _ (pages : PageMap) (base : ℕ) (rows : List (List ℕ)) (past : 0 < base) (some : All (λ row. 1 < length row) rows)
    (short : length (tree_of base rows).bytes < 2 ^ 50) (stand : Stand (all_pages pages) base (tree_of base rows).bytes) where
  abbrev bytes : List ℕ
  bytes = (tree_of base rows).bytes

  abbrev next : ℕ
  next = next_place base bytes

  abbrev root : ℕ
  root = number_of (tree_of base rows).root

  abbrev role : Role
  role = tree-role base rows past some

  abbrev layout : Layout
  layout = tree_layout pages base next role

  lies : Lies layout role base bytes
  lies = λ k within. placed pages base next role (base + k) (page_at bytes k) (omega arith) (omega (arith, within)) (stand k within)

  -- what the tree is, whatever the order of items
  reads : (order : Item → Item → Bool) → TreeReads order layout role base bytes (tree_of base rows).root (row_entries 1 rows)
  reads order = tree-reads base rows past some order layout short lies

  stored : All (λ row. length row < 2 ^ 31) rows → IsStored Table no_order 4096 layout root (row_entries 1 rows)
  stored small =
      let t : TreeReads by_rank layout role base bytes (tree_of base rows).root (row_entries 1 rows) = reads by_rank in
      let items : List Item = tree_items (form by_rank layout.nodes) layout.nodes t.tall root in
      record {
        height = t.tall;
        shape = record { top = t.top; shallow = omega (arith, t.shallow); full = elim t.full [ inl low ↦ inl low | inr many ↦ inr (inl many) ] };
        ascends = t.ascends;
        chained = chained-rows by_rank layout items
            (subst (Each (IsChained (form by_rank layout.nodes) layout)) (sym t.rows) (chained-cells by_rank layout t.cells (t.chained (allowed-entries 1 rows small))));
        apart = apart pages base next role;
        holds = ap (map (entry_of Table 4096 layout.spill)) t.rows ∙ items-entries by_rank layout.nodes layout.spill t.cells ∙ t.says;
      }

  abbrev flat : Item → Item → Bool
  flat x y = false

  height-same : (height : ℕ) → IsTop (unordered Table 4096) layout.nodes height root → height ≡ (reads flat).tall
  height-same height top =
      let t : TreeReads flat layout role base bytes (tree_of base rows).root (row_entries 1 rows) = reads flat in
      let fuel : ℕ = height + t.tall + 1 in
      sym (height-is flat layout.nodes height fuel root top (omega arith)) ∙ height-is flat layout.nodes t.tall fuel root t.top (omega arith)

  tight : IsTight Table 4096 layout root
  tight =
      let t : TreeReads flat layout role base bytes (tree_of base rows).root (row_entries 1 rows) = reads flat in
      record {
        nodes = λ height number top live.
            let out = node-out pages base next role number live in
            let k : ℕ = out.0.0 - base in
            let here : number_of (base + k) ≡ number = (let e : base + k ≡ out.0.0 = omega (arith, out.0.1) in ap number_of e) ∙ sym out.0.3 in
            subst (λ h. Reaches (unordered Table 4096) layout.nodes h root number) (sym (height-same height top))
            (subst (Reaches (unordered Table 4096) layout.nodes t.tall root) here
            (t.nodes k (omega (arith, out.0.1, out.0.2, tree-whole base rows)) (ap role here ∙ out.1)));
        spill = λ height number top live.
            let out = link-out pages base next role number live in
            let k : ℕ = out.0.0 - base in
            let here : number_of (base + k) ≡ number = (let e : base + k ≡ out.0.0 = omega (arith, out.0.1) in ap number_of e) ∙ sym out.0.3 in
            let l : IsLinked layout t.cells (number_of (base + k)) = t.links k (omega (arith, out.0.1, out.0.2, tree-whole base rows)) (λ none. out.1 (sym (ap role here) ∙ none)) in
            let row : Item = row_item flat layout.nodes l.cell in
            let items : List Item = tree_items (unordered Table 4096) layout.nodes t.tall root in
            let among : IsIn row (rows_of items) = subst (IsIn row) (sym t.rows) (in-items flat layout l.cell t.cells l.among) in
            subst (λ h. IsLinkAmong Table 4096 layout.spill (tree_items (unordered Table 4096) layout.nodes h root) number) (sym (height-same height top))
            (subst (IsLinkAmong Table 4096 layout.spill items) here
            (record { row = row; among = (from_rows row items among).0; a_row = refl; link = l.link }));
      }

  own-out : (number : ℕ) → Owns layout number → IsSpanned base next number
  own-out number owns = elim owns [ inl node ↦ (node-out pages base next role number node).0 | inr link ↦ (link-out pages base next role number link).0 ]

  own-in : (number : ℕ) → IsSpanned base next number → Owns layout number
  own-in number spanned =
      let k : ℕ = spanned.0 - base in
      let within : 4096 * (k + 1) ≤ length bytes = omega (arith, spanned.1, spanned.2, tree-whole base rows) in
      let e : base + k ≡ spanned.0 = omega (arith, spanned.1) in
      let page : List ℕ = page_at bytes k in
      subst (Owns layout) (ap number_of e ∙ sym spanned.3)
      (owned pages base next role (base + k) page (omega arith) (omega (arith, e, spanned.2)) (stand k within) (λ none. omega (arith, page-size bytes k within, ap length none)))

  pub has-table : All (λ row. length row < 2 ^ 31) rows → HasTable pages base next root rows
  has-table small = record {
    layout = layout;
    table = record {
      entries = row_entries 1 rows;
      stored = stored small;
      tight = tight;
      shows = rows-shown 1 rows (omega (arith, rows-few base rows past some, short));
    };
    laid = laid-in pages base next role;
    own = λ number. (own-out number, own-in number);
  }
