-- Leaves of rows, as they are read.
use Rattle.std.proofs.Common.{◌≡◌, ◌≢◌, ℕ, ◌+◌, ◌-◌, ◌*◌, ◌/◌, ◌%◌, ◌^◌, ◌<◌, ◌≤◌, ◌==◌, Bool, true, false, if◌then◌else◌, List, [], ◌∷◌, ◌++◌, length, drop, map, flat_map, refl, sym, ◌∙◌, ap, subst, arith, inl, inr, append_assoc, append-nil, length-append, length-drop, nat_le, All}
use Rattle.std.proofs.lemmas.Bool.{cases_lt, cond-true, cond-false, le-leb, lt-leb, false≢true}
use Rattle.std.proofs.lemmas.List.{flat_map_more}
use Rattle.std.proofs.lemmas.List.Elements.{All-head, All-nil, All-push, All-tail}
use Rattle.sqlite_format.specs.declared.kind.Tree.TheVariants.{Table}
use Rattle.sqlite_format.specs.Cell.{IsCell, local_len}
use Rattle.sqlite_format.specs.Page.{IsPage, page_cells}
use Rattle.sqlite_btree.specs.Cut.{Each}
use Rattle.sqlite_btree.specs.Chain.{Entry, IsLinkOfRow, Layout}
use Rattle.db_records.specs.Cell.{cell_bytes}
use Rattle.db_pages.specs.Laws.{HoldsCells, leaf_kind}
use Rattle.db_pages.specs.Page.{joined, leaf_page}
use Rattle.db_pages.proofs.Pages.{leaf-holds, length-leaf_page}
use Rattle.db_pages.specs.declared.child.Child.{Child}
use Rattle.csv_source.specs.Lists.{is_empty}
use Rattle.db_pages.specs.Laid.{Laid, chain, ended, finished, long_cell, next_place, roomy, with_long, with_row, with_rows, with_short}
use Rattle.db_pages.specs.Numbers.{number_of}
use Rattle.db_pages.proofs.Chains.{long_cell_size}
use Rattle.db_pages.proofs.Cuts.{joined_more}
use Rattle.db_pages.proofs.Sizes.{chain-whole, local-most, local-within, long-size, short-size}
use Rattle.db_reading.specs.Entries.{row_entries, row_entry}
use Rattle.db_reading.specs.Pages.{EachPage, page_at}
use Rattle.db_reading.proofs.Each.{each-more}
use Rattle.db_reading.proofs.LeafCells.{leaf_entry, long-chained, long-linked, long-says, short-chained, short-says}
use Rattle.db_reading.proofs.Overflow.{IsLink, chain-holds, local-some, long-some}
use Rattle.db_reading.proofs.Roles.{IsPlaced, Lies, Role, given, given-before, given-behind, given-in}
use Rattle.db_reading.proofs.Standing.{each-front, each-next, each-page, number-least, number-up}
use Rattle.db_reading.proofs.Saying.{Holds, IsChainedCell, IsLeaf, IsLinked, Says, all_cells, among-last, among-more, leaf_cells, row-says, spans-more}

module _ (base : ℕ) (past : 0 < base) where
  finish-says : (layout : Layout) (laid : Laid) (count : ℕ) (entries : List Entry) (h : Holds base laid count entries) → 0 < length laid.cells →
      Lies layout h.role base (laid.pages ++ leaf_page laid.cells) → length (laid.pages ++ leaf_page laid.cells) < 2 ^ 50 → Says layout h.role base (finished base laid) entries
  finish-says layout laid count entries h some lies short =
      let page : List ℕ = leaf_page laid.cells in
      let place : ℕ = next_place base laid.pages in
      let leaf : Child = record { place = place; last = laid.last } in
      let Placed : ℕ → List ℕ → Type 0 = λ number p. IsPlaced layout (h.role number) number p in
      let size : length page ≡ 4096 = length-leaf_page laid.cells h.fits in
      let longer : length (laid.pages ++ page) ≡ length laid.pages + length page = length-append laid.pages page in
      let old : Says layout h.role base laid entries = h.says layout (each-front Placed base laid.pages page lies) (omega (arith, longer, short)) in
      let node : h.role (number_of place) ≡ [] = h.fresh (number_of place) (omega arith) in
      let here : layout.nodes (number_of place) ≡ page = (each-page Placed place page size (each-next Placed base laid.pages page h.whole lies)).node node in
      let holds : HoldsCells leaf_kind page laid.cells = leaf-holds laid.cells old.whole h.fits in
      let found : leaf_cells layout.nodes leaf ≡ laid.cells = ap (λ p. page_cells leaf_kind p 0) here ∙ holds.found in
      let same : all_cells layout.nodes (laid.leaves ++ leaf ∷ []) [] ≡ all_cells layout.nodes laid.leaves laid.cells =
      append-nil (flat_map (leaf_cells layout.nodes) (laid.leaves ++ leaf ∷ [])) ∙ sym (flat_map_more (leaf_cells layout.nodes) [] laid.leaves leaf)
      ∙ ap (λ cells. flat_map (leaf_cells layout.nodes) laid.leaves ++ cells) found in
      record {
        whole = All-nil (IsCell leaf_kind 4096);
        leaves = each-more (IsLeaf layout.nodes) laid.leaves leaf old.leaves (record {
          sound = subst (λ p. IsPage leaf_kind p 0) (sym here) holds.sound;
          size = ap length here ∙ size;
          some = omega (arith, some, ap length found);
          behind = omega (arith, past);
          small = omega (arith, h.last, h.few, h.fits, longer, short);
        });
        read = ap (map (leaf_entry layout.spill)) same ∙ old.read;
        order = record {
          high = laid.last;
          leaves = spans-more layout 0 laid.leaves old.order.high leaf old.order.rows old.order.leaves (ap (map (leaf_entry layout.spill)) found ∙ old.order.cells) old.order.last;
          rows = [];
          cells = refl;
          last = omega arith;
        };
        links = λ k within is.
            elim (cases_lt k (length laid.pages / 4096)) [
              | inl before ↦ subst (λ cells. IsLinked layout cells (number_of (base + k))) (sym same) (old.links k (omega (arith, before)) is)
              | inr last ↦
                  let e : place ≡ base + k = omega (arith, within, last, longer, size, h.whole) in
                  absurd (is (ap (λ p. h.role (number_of p)) (sym e) ∙ node))
            ];
        chained = λ allowed. subst (Each (IsChainedCell layout)) (sym same) (old.chained allowed);
      }

  finish-holds : (laid : Laid) (count : ℕ) (entries : List Entry) → Holds base laid count entries → 0 < length laid.cells → Holds base (finished base laid) count entries
  finish-holds laid count entries h some =
      let page : List ℕ = leaf_page laid.cells in
      let place : ℕ = next_place base laid.pages in
      let leaf : Child = record { place = place; last = laid.last } in
      let size : length page ≡ 4096 = length-leaf_page laid.cells h.fits in
      let longer : length (laid.pages ++ page) ≡ length laid.pages + length page = length-append laid.pages page in
      let up : number_of place < number_of (next_place base (laid.pages ++ page)) = number-up place (next_place base (laid.pages ++ page)) (omega (arith, longer, size)) in
      record {
        whole = omega (arith, h.whole, longer, size);
        fits = omega arith;
        few = omega (arith, h.few, h.fits, longer, size);
        last = h.last;
        short = λ k d lt. omega (arith, h.short k d lt, longer);
        role = h.role;
        fresh = λ number behind. h.fresh number (omega (arith, behind, up));
        leafy = λ k within is.
            elim (cases_lt k (length laid.pages / 4096)) [
              | inl before ↦ among-more (base + k) laid.leaves leaf (h.leafy k (omega (arith, before)) is)
              | inr last ↦ among-last (base + k) laid.leaves leaf (omega (arith, within, last, longer, size, h.whole))
            ];
        says = λ layout lies short. finish-says layout laid count entries h some lies short;
      }

  -- a choice between two layouts
  same-holds : (laid laid′ : Laid) (count : ℕ) (entries : List Entry) → laid′ ≡ laid → Holds base laid count entries → Holds base laid′ count entries
  same-holds laid laid′ count entries is h = subst (λ l. Holds base l count entries) (sym is) h

  cells-some : (cells : List (List ℕ)) → is_empty cells ≡ false → 0 < length cells
  cells-some [] is = absurd (false≢true (sym is))
  cells-some (cell ∷ cells) is = omega arith

  pub end-holds : (laid : Laid) (count : ℕ) (entries : List Entry) → Holds base laid count entries → Holds base (ended base laid) count entries
  end-holds laid count entries h = by-cells (is_empty laid.cells) refl
    where
      by-cells : (test : Bool) → is_empty laid.cells ≡ test → Holds base (ended base laid) count entries
      by-cells true is = same-holds laid (ended base laid) count entries (cond-true (is_empty laid.cells) laid (finished base laid) is) h
      by-cells false is =
          same-holds (finished base laid) (ended base laid) count entries (cond-false (is_empty laid.cells) laid (finished base laid) is)
          (finish-holds laid count entries h (cells-some laid.cells is))

  record Room (laid : Laid) (count size : ℕ) (entries : List Entry) : Type 0 where
    holds : Holds base laid count entries
    room : 8 + 2 * (length laid.cells + 1) + length (joined laid.cells) + size ≤ 4096

  -- a leaf that has no room has a cell
  full-some : (cells : List (List ℕ)) (size : ℕ) → size ≤ 4086 → 4096 < 8 + 2 * (length cells + 1) + length (joined cells) + size → 0 < length cells
  full-some [] size small full = absurd (let no : ⊥ = omega (arith, small, full) in no)
  full-some (cell ∷ cells) size small full = omega arith

  room-holds : (laid : Laid) (count size : ℕ) (entries : List Entry) → size ≤ 4086 → Holds base laid count entries → Room (roomy base laid size) count size entries
  room-holds laid count size entries small h =
      let used : ℕ = 8 + 2 * (length laid.cells + 1) + length (joined laid.cells) + size in
      elim (cases_lt 4096 used) [
        | inl full ↦
            subst (λ l. Room l count size entries) (sym (cond-false (nat_le used 4096) laid (finished base laid) (lt-leb used 4096 full)))
            (record { holds = finish-holds laid count entries h (full-some laid.cells size small full); room = omega (arith, small) })
        | inr fits ↦
            subst (λ l. Room l count size entries) (sym (cond-true (nat_le used 4096) laid (finished base laid) (le-leb used 4096 fits)))
            (record { holds = h; room = fits })
      ]

  -- one more cell fits
  more-fits : (cells : List (List ℕ)) (cell : List ℕ) (size : ℕ) → length cell ≡ size → 8 + 2 * (length cells + 1) + length (joined cells) + size ≤ 4096 →
      8 + 2 * length (cells ++ cell ∷ []) + length (joined (cells ++ cell ∷ [])) ≤ 4096
  more-fits cells cell size is h = omega (arith, is, h, length-append cells (cell ∷ []), ap length (joined_more cells cell), length-append (joined cells) cell)

  short-holds : (laid : Laid) (count rowid : ℕ) (row : List ℕ) (entries : List Entry) → rowid ≡ count + 1 → 1 < length row → length row ≤ 4061 → Holds base laid count entries →
      Holds base (with_short base laid rowid row) (count + 1) (entries ++ row_entry rowid row ∷ [])
  short-holds laid count rowid row entries next some few h =
      let cell : List ℕ = cell_bytes rowid row in
      let to : Laid = roomy base laid (length cell) in
      let r : Room to count (length cell) entries = room-holds laid count (length cell) entries (short-size rowid row few) h in
      record {
        whole = r.holds.whole;
        fits = more-fits to.cells cell (length cell) refl r.room;
        few = omega (arith, r.holds.few, length-append to.cells (cell ∷ []));
        last = next;
        short = All-push (λ (e : Entry). length e.payload ≤ length to.pages + 4061) entries (row_entry rowid row) r.holds.short (omega (arith, few));
        role = r.holds.role;
        fresh = r.holds.fresh;
        leafy = r.holds.leafy;
        says = λ layout lies short.
            let small : rowid < 2 ^ 56 = omega (arith, next, r.holds.few, r.holds.fits, short) in
            row-says base layout r.holds.role r.holds.role to to.pages rowid row cell entries (omega (arith, next, r.holds.last)) (r.holds.says layout lies short)
            (short-says layout.spill rowid row small few some) (λ allowed. short-chained layout rowid row small few) (λ k within is. inl (within, is));
      }

  long-holds : (laid : Laid) (count rowid : ℕ) (row : List ℕ) (entries : List Entry) → rowid ≡ count + 1 → 4061 < length row → Holds base laid count entries →
      Holds base (with_long base laid rowid row) (count + 1) (entries ++ row_entry rowid row ∷ [])
  long-holds laid count rowid row entries next long h =
      let size : ℕ = length (long_cell 0 rowid row) in
      let to : Laid = roomy base laid size in
      let place : ℕ = next_place base to.pages in
      let cell : List ℕ = long_cell place rowid row in
      let l : ℕ = local_len Table 4096 (length row) in
      let rest : List ℕ = drop l row in
      let pages : List ℕ = chain (length row) place rest in
      let left : length rest ≡ length row - l = length-drop l row in
      let some : 0 < l = local-some (length row) (omega (arith, long)) in
      let within : l ≤ length row = local-within (length row) in
      let held : length rest ≤ length pages = chain-holds (length row) place rest (omega (arith, left, some, within)) in
      let longer : length (to.pages ++ pages) ≡ length to.pages + length pages = length-append to.pages pages in
      let r : Room to count size entries = room-holds laid count size entries (long-size 0 rowid row) h in
      let whole : length pages % 4096 ≡ 0 = chain-whole (length row) place rest in
      let behind : ℕ = next_place base (to.pages ++ pages) in
      let role : Role = given (number_of place) (number_of behind) cell r.holds.role in
      let up : number_of place ≤ number_of behind = elim (cases_lt place behind) [
        | inl less ↦ omega (arith, number-up place behind less)
        | inr most ↦ (let e : place ≡ behind = omega (arith, most, longer) in omega (arith, ap number_of e))
      ] in
      let before : (k : ℕ) → 4096 * (k + 1) ≤ length to.pages → role (number_of (base + k)) ≡ r.holds.role (number_of (base + k)) = λ k front.
      given-before (number_of place) (number_of behind) cell r.holds.role (number_of (base + k)) (number-up (base + k) place (omega (arith, front))) in
      let inside : (k : ℕ) → 4096 * (k + 1) ≤ length pages → role (number_of (place + k)) ≡ cell = λ k there.
      given-in (number_of place) (number_of behind) cell r.holds.role (number_of (place + k)) (number-least place k) (number-up (place + k) behind (omega (arith, there, longer, r.holds.whole))) in
      let real : cell ≢ [] = λ none. omega (arith, long-some place rowid row, ap length none) in
      record {
        whole = omega (arith, r.holds.whole, longer, whole);
        fits = more-fits to.cells cell size (long_cell_size place rowid row) r.room;
        few = omega (arith, r.holds.few, longer, length-append to.cells (cell ∷ []));
        last = next;
        short = All-push (λ (e : Entry). length e.payload ≤ length (to.pages ++ pages) + 4061) entries (row_entry rowid row)
            (λ k d lt. omega (arith, r.holds.short k d lt, longer)) (omega (arith, left, held, local-most (length row), longer));
        role = role;
        fresh = λ number past-all.
            given-behind (number_of place) (number_of behind) cell r.holds.role number (omega (arith, past-all, up)) past-all ∙ r.holds.fresh number (omega (arith, past-all, up));
        leafy = λ k within-all is.
            elim (cases_lt k (length to.pages / 4096)) [
              | inl front ↦ r.holds.leafy k (omega (arith, front)) (sym (before k (omega (arith, front))) ∙ is)
              | inr there ↦
                  let j : ℕ = k - length to.pages / 4096 in
                  let e : place + j ≡ base + k = omega (arith, there) in
                  absurd (real (sym (inside j (omega (arith, within-all, longer, there, r.holds.whole))) ∙ ap (λ p. role (number_of p)) e ∙ is))
            ];
        says = λ layout lies short.
            let Placed : ℕ → List ℕ → Type 0 = λ number p. IsPlaced layout (role number) number p in
            let front : Lies layout r.holds.role base to.pages = λ k there.
            subst (λ owner. IsPlaced layout owner (number_of (base + k)) (page_at to.pages k)) (before k there) (each-front Placed base to.pages pages lies k there) in
            let links : EachPage (IsLink layout cell) place pages = λ k there.
            (subst (λ owner. IsPlaced layout owner (number_of (place + k)) (page_at pages k)) (inside k there) (each-next Placed base to.pages pages r.holds.whole lies k there)).link real in
            let old : Says layout r.holds.role base to entries = r.holds.says layout front (omega (arith, longer, short)) in
            let small : rowid < 2 ^ 56 = omega (arith, next, r.holds.few, r.holds.fits, longer, short) in
            let row-short : length row < 2 ^ 56 = omega (arith, left, held, local-most (length row), longer, short) in
            row-says base layout r.holds.role role to (to.pages ++ pages) rowid row cell entries (omega (arith, next, r.holds.last)) old
            (long-says layout.spill place rowid row small row-short long (λ k there. (links k there).0))
            (long-chained layout place rowid row small row-short long links (omega (arith, past)))
            (λ k there is.
            elim (cases_lt k (length to.pages / 4096)) [
              | inl low ↦ inl (omega (arith, low), λ none. is (before k (omega (arith, low)) ∙ none))
              | inr high ↦
                  let j : ℕ = k - length to.pages / 4096 in
                  let e : place + j ≡ base + k = omega (arith, high) in
                  inr (subst (λ p. IsLinkOfRow Table 4096 layout.spill cell (number_of p)) e
                  (long-linked layout place rowid row small row-short long links j (omega (arith, there, longer, high, r.holds.whole))))
            ]);
      }

  row-holds : (laid : Laid) (count rowid : ℕ) (row : List ℕ) (entries : List Entry) → rowid ≡ count + 1 → 1 < length row → Holds base laid count entries →
      Holds base (with_row base laid rowid row) (count + 1) (entries ++ row_entry rowid row ∷ [])
  row-holds laid count rowid row entries next some h =
      let more : List Entry = entries ++ row_entry rowid row ∷ [] in
      elim (cases_lt 4061 (length row)) [
        | inl long ↦
            same-holds (with_long base laid rowid row) (with_row base laid rowid row) (count + 1) more
            (cond-false (nat_le (length row) 4061) (with_short base laid rowid row) (with_long base laid rowid row) (lt-leb (length row) 4061 long))
            (long-holds laid count rowid row entries next long h)
        | inr few ↦
            same-holds (with_short base laid rowid row) (with_row base laid rowid row) (count + 1) more
            (cond-true (nat_le (length row) 4061) (with_short base laid rowid row) (with_long base laid rowid row) (le-leb (length row) 4061 few))
            (short-holds laid count rowid row entries next some few h)
      ]

  step-holds : (test : Bool) (laid : Laid) (count : ℕ) (entries : List Entry) → Holds base laid count entries → Holds base (if test then ended base laid else laid) count entries
  step-holds true laid count entries h = end-holds laid count entries h
  step-holds false laid count entries h = h

  pub rows-hold : (rows : List (List ℕ)) (laid : Laid) (count rowid : ℕ) (entries : List Entry) → rowid ≡ count + 1 → All (λ row. 1 < length row) rows →
      Holds base laid count entries → Holds base (with_rows base laid rowid rows) (count + length rows) (entries ++ row_entries rowid rows)
  rows-hold [] laid count rowid entries next some h =
      let e : count ≡ count + 0 = omega arith in
      subst (λ n. Holds base laid n (entries ++ [])) e (subst (λ xs. Holds base laid count xs) (sym (append-nil entries)) h)
  rows-hold (row ∷ rows) laid count rowid entries next some h =
      let now : Laid = with_row base laid rowid row in
      let more : List Entry = entries ++ row_entry rowid row ∷ [] in
      let to : Laid = if rowid % 8192 == 0 then ended base now else now in
      let one : Holds base to (count + 1) more =
      step-holds (rowid % 8192 == 0) now (count + 1) more (row-holds laid count rowid row entries next (All-head (λ r. 1 < length r) row rows some) h) in
      let all : Holds base (with_rows base to (rowid + 1) rows) (count + 1 + length rows) (more ++ row_entries (rowid + 1) rows) =
      rows-hold rows to (count + 1) (rowid + 1) more (omega (arith, next)) (All-tail (λ r. 1 < length r) row rows some) one in
      let e : count + 1 + length rows ≡ count + length (row ∷ rows) = omega arith in
      subst (λ n. Holds base (with_rows base to (rowid + 1) rows) n (entries ++ row_entries rowid (row ∷ rows))) e
      (subst (λ xs. Holds base (with_rows base to (rowid + 1) rows) (count + 1 + length rows) xs)
      (append_assoc entries (row_entry rowid row ∷ []) (row_entries (rowid + 1) rows)) all)

  -- once the leaf under way has ended, no cell is left
  pub none-left : (laid : Laid) → (ended base laid).cells ≡ []
  none-left laid = by-cells (is_empty laid.cells) refl
    where
      empty : (cells : List (List ℕ)) → is_empty cells ≡ true → cells ≡ []
      empty [] is = refl
      empty (cell ∷ cells) is = absurd (false≢true is)

      by-cells : (test : Bool) → is_empty laid.cells ≡ test → (ended base laid).cells ≡ []
      by-cells true is = ap (λ (l : Laid). l.cells) (cond-true (is_empty laid.cells) laid (finished base laid) is) ∙ empty laid.cells is
      by-cells false is = ap (λ (l : Laid). l.cells) (cond-false (is_empty laid.cells) laid (finished base laid) is)
