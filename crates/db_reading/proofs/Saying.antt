-- What rows that are laid out say to a reader.
use Rattle.std.proofs.Common.{◌≡◌, ◌≢◌, ◌⊎◌, ℕ, suc, ◌+◌, ◌*◌, ◌%◌, ◌^◌, ◌<◌, ◌≤◌, List, [], ◌∷◌, ◌++◌, length, map, flat_map, refl, sym, ◌∙◌, ap, subst, arith, inl, inr, append_assoc, length-append, All}
use Rattle.std.proofs.lemmas.List.{map-append}
use Rattle.std.proofs.lemmas.List.Elements.{All-nil, All-push}
use Rattle.sqlite_format.specs.declared.kind.Tree.TheVariants.{Table}
use Rattle.sqlite_format.specs.Cell.{IsCell, cell_body}
use Rattle.sqlite_format.specs.Page.{IsPage, page_cells}
use Rattle.sqlite_btree.specs.Part.{Part}
use Rattle.sqlite_btree.specs.Cut.{Each, IsIn}
use Rattle.sqlite_btree.specs.Chain.{Entry, HasChain, IsLinkOfRow, Layout}
use Rattle.db_pages.specs.Laws.{leaf_kind}
use Rattle.db_pages.specs.Page.{joined}
use Rattle.db_pages.specs.declared.child.Child.{Child}
use Rattle.db_pages.specs.Laid.{Laid, next_place, nothing_laid}
use Rattle.db_pages.specs.Numbers.{number_of}
use Rattle.db_reading.specs.Entries.{row_entries, row_entry}
use Rattle.db_reading.proofs.Each.{all-front, all-last, each-more}
use Rattle.db_reading.proofs.LeafCells.{SaysRow, leaf_entry}
use Rattle.db_reading.proofs.Roles.{Lies, Role}

-- a leaf that isn't empty, and not on the first page
pub record IsLeaf (nodes : Part) (child : Child) : Type 0 where
  pub sound : IsPage leaf_kind (nodes (number_of child.place)) 0
  pub size : length (nodes (number_of child.place)) ≡ 4096
  pub some : 0 < length (page_cells leaf_kind (nodes (number_of child.place)) 0)
  pub behind : 0 < child.place
  pub small : child.last < 2 ^ 56

-- the cells of a leaf
abbrev pub leaf_cells : Part → Child → List (List ℕ)
leaf_cells nodes child = page_cells leaf_kind (nodes (number_of child.place)) 0

-- the cells of leaves, and those behind them
abbrev pub all_cells : Part → List Child → List (List ℕ) → List (List ℕ)
all_cells nodes leaves cells = flat_map (leaf_cells nodes) leaves ++ cells

-- leaves in order: each has the rows behind those of the leaves before it, up to its last
abbrev pub Spans : Layout → ℕ → List Child → ℕ → Type 0
Spans layout low [] high = low ≡ high
Spans layout low (child ∷ leaves) high =
    (rows : List (List ℕ)) × (map (leaf_entry layout.spill) (leaf_cells layout.nodes child) ≡ row_entries (low + 1) rows) × (child.last ≡ low + length rows)
    × Spans layout child.last leaves high

-- the leaves in order, and behind them the cells of the leaf under way
pub record InOrder (layout : Layout) (laid : Laid) : Type 0 where
  pub high : ℕ
  pub leaves : Spans layout 0 laid.leaves high
  pub rows : List (List ℕ)
  pub cells : map (leaf_entry layout.spill) laid.cells ≡ row_entries (high + 1) rows
  pub last : laid.last ≡ high + length rows

-- a page holds the rest of the row of one of these cells
pub record IsLinked (layout : Layout) (cells : List (List ℕ)) (number : ℕ) : Type 0 where
  pub cell : List ℕ
  pub among : IsIn cell cells
  pub link : IsLinkOfRow Table 4096 layout.spill (cell_body leaf_kind 4096 cell) number

-- a cell has the pages in which its row goes on
abbrev pub IsChainedCell : Layout → List ℕ → Type 0
IsChainedCell layout cell = HasChain Table 4096 layout (cell_body leaf_kind 4096 cell)

-- records that SQLite allows
abbrev pub AreAllowed : List Entry → Type 0
AreAllowed entries = All (λ (e : Entry). length e.payload < 2 ^ 31) entries

-- the leaves and the cells of the leaf under way say these rows
pub record Says (layout : Layout) (role : Role) (base : ℕ) (laid : Laid) (entries : List Entry) : Type 0 where
  pub whole : All (IsCell leaf_kind 4096) laid.cells
  pub leaves : Each (IsLeaf layout.nodes) laid.leaves
  pub read : map (leaf_entry layout.spill) (all_cells layout.nodes laid.leaves laid.cells) ≡ entries
  pub order : InOrder layout laid
  pub links : (k : ℕ) → 4096 * (k + 1) ≤ length laid.pages → role (number_of (base + k)) ≢ [] → IsLinked layout (all_cells layout.nodes laid.leaves laid.cells) (number_of (base + k))
  pub chained : AreAllowed entries → Each (IsChainedCell layout) (all_cells layout.nodes laid.leaves laid.cells)

-- one of the leaves stands at a place
abbrev pub IsAmong : ℕ → List Child → Type 0
IsAmong place [] = ⊥
IsAmong place (child ∷ leaves) = (child.place ≡ place) ⊎ IsAmong place leaves

pub among-more : (place : ℕ) (leaves : List Child) (child : Child) → IsAmong place leaves → IsAmong place (leaves ++ child ∷ [])
among-more place [] child is = absurd is
among-more place (first ∷ leaves) child is = elim is [ inl here ↦ inl here | inr there ↦ inr (among-more place leaves child there) ]

pub among-last : (place : ℕ) (leaves : List Child) (child : Child) → child.place ≡ place → IsAmong place (leaves ++ child ∷ [])
among-last place [] child is = inl is
among-last place (first ∷ leaves) child is = inr (among-last place leaves child is)

-- so many rows are laid out, and say so wherever their pages lie
pub record Holds (base : ℕ) (laid : Laid) (count : ℕ) (entries : List Entry) : Type 0 where
  pub whole : length laid.pages % 4096 ≡ 0
  pub fits : 8 + 2 * length laid.cells + length (joined laid.cells) ≤ 4096
  pub few : count ≤ length laid.pages + length laid.cells
  pub last : laid.last ≡ count
  pub short : All (λ (e : Entry). length e.payload ≤ length laid.pages + 4061) entries
  pub role : Role
  pub fresh : (number : ℕ) → number_of (next_place base laid.pages) ≤ number → role number ≡ []
  pub leafy : (k : ℕ) → 4096 * (k + 1) ≤ length laid.pages → role (number_of (base + k)) ≡ [] → IsAmong (base + k) laid.leaves
  pub says : (layout : Layout) → Lies layout role base laid.pages → length laid.pages < 2 ^ 50 → Says layout role base laid entries

pub nothing-holds : (base : ℕ) → Holds base nothing_laid 0 []
nothing-holds base = record {
  whole = refl;
  fits = omega arith;
  few = omega arith;
  last = refl;
  short = All-nil (λ (e : Entry). length e.payload ≤ 0 + 4061);
  role = λ number. [];
  fresh = λ number past. refl;
  leafy = λ k within is. absurd (let no : ⊥ = omega (arith, within) in no);
  says = λ layout lies short. record {
    whole = All-nil (IsCell leaf_kind 4096);
    leaves = tt;
    read = refl;
    order = record { high = 0; leaves = refl; rows = []; cells = refl; last = refl };
    links = λ k within is. absurd (let no : ⊥ = omega (arith, within) in no);
    chained = λ allowed. tt;
  };
}

pub spans-more : (layout : Layout) (low : ℕ) (leaves : List Child) (high : ℕ) (child : Child) (rows : List (List ℕ)) → Spans layout low leaves high →
    map (leaf_entry layout.spill) (leaf_cells layout.nodes child) ≡ row_entries (high + 1) rows → child.last ≡ high + length rows →
    Spans layout low (leaves ++ child ∷ []) child.last
spans-more layout low [] high child rows spans says last =
    (rows, says ∙ ap (λ n. row_entries (n + 1) rows) (sym spans), last ∙ ap (λ n. n + length rows) (sym spans), refl)
spans-more layout low (first ∷ leaves) high child rows spans says last =
    (spans.0, spans.1, spans.2, spans-more layout first.last leaves high child rows spans.3 says last)

entries-more : (rowid : ℕ) (rows : List (List ℕ)) (row : List ℕ) → row_entries rowid (rows ++ row ∷ []) ≡ row_entries rowid rows ++ row_entry (rowid + length rows) row ∷ []
entries-more rowid [] row = let e : rowid ≡ rowid + 0 = omega arith in ap (λ n. row_entry n row ∷ []) e
entries-more rowid (first ∷ rows) row =
    let e : rowid + 1 + length rows ≡ rowid + suc (length rows) = omega arith in
    ap (λ es. row_entry rowid first ∷ es) (entries-more (rowid + 1) rows row) ∙ ap (λ n. row_entry rowid first ∷ row_entries (rowid + 1) rows ++ row_entry n row ∷ []) e

in-more : {X : Type 0} (x : X) (xs : List X) (y : X) → IsIn x xs → IsIn x (xs ++ y ∷ [])
in-more x [] y is = absurd is
in-more x (z ∷ xs) y is = elim is [ inl here ↦ inl here | inr there ↦ inr (in-more x xs y there) ]

in-last : {X : Type 0} (xs : List X) (y : X) → IsIn y (xs ++ y ∷ [])
in-last [] y = inl refl
in-last (z ∷ xs) y = inr (in-last xs y)

-- a row more, by its cell: its pages are those before it, or hold the rest of it
pub row-says : (base : ℕ) (layout : Layout) (role role′ : Role) (to : Laid) (pages : List ℕ) (rowid : ℕ) (row cell : List ℕ) (entries : List Entry) → rowid ≡ to.last + 1 →
    Says layout role base to entries → SaysRow layout.spill rowid row cell → (length row < 2 ^ 31 → HasChain Table 4096 layout cell) →
    ((k : ℕ) → 4096 * (k + 1) ≤ length pages → role′ (number_of (base + k)) ≢ [] →
    (4096 * (k + 1) ≤ length to.pages × (role (number_of (base + k)) ≢ [])) ⊎ IsLinkOfRow Table 4096 layout.spill cell (number_of (base + k))) →
    Says layout role′ base (record { pages = pages; leaves = to.leaves; cells = to.cells ++ cell ∷ []; last = rowid }) (entries ++ row_entry rowid row ∷ [])
row-says base layout role role′ to pages rowid row cell entries next old new has links =
    let before : List (List ℕ) = flat_map (leaf_cells layout.nodes) to.leaves in
    let say : List ℕ → Entry = leaf_entry layout.spill in
    let grown : all_cells layout.nodes to.leaves (to.cells ++ cell ∷ []) ≡ all_cells layout.nodes to.leaves to.cells ++ cell ∷ [] = sym (append_assoc before to.cells (cell ∷ [])) in
    let count : to.last + 1 ≡ old.order.high + 1 + length old.order.rows = omega (arith, old.order.last) in
    record {
      whole = All-push (IsCell leaf_kind 4096) to.cells cell old.whole new.whole;
      leaves = old.leaves;
      read = ap (map say) grown ∙ map-append say (all_cells layout.nodes to.leaves to.cells) (cell ∷ []) ∙ ap (λ xs. xs ++ say cell ∷ []) old.read ∙ ap (λ e. entries ++ e ∷ []) new.entry;
      order = record {
        high = old.order.high;
        leaves = old.order.leaves;
        rows = old.order.rows ++ row ∷ [];
        cells = map-append say to.cells (cell ∷ []) ∙ ap (λ xs. xs ++ say cell ∷ []) old.order.cells ∙ ap (λ e. row_entries (old.order.high + 1) old.order.rows ++ e ∷ []) new.entry
            ∙ ap (λ n. row_entries (old.order.high + 1) old.order.rows ++ row_entry n row ∷ []) (next ∙ count) ∙ sym (entries-more (old.order.high + 1) old.order.rows row);
        last = omega (arith, next, old.order.last, length-append old.order.rows (row ∷ []));
      };
      links = λ k within is.
          subst (λ cells. IsLinked layout cells (number_of (base + k))) (sym grown)
          (elim (links k within is) [
            | inl front ↦
                let l : IsLinked layout (all_cells layout.nodes to.leaves to.cells) (number_of (base + k)) = old.links k front.0 front.1 in
                record { cell = l.cell; among = in-more l.cell (all_cells layout.nodes to.leaves to.cells) cell l.among; link = l.link }
            | inr here ↦ record {
              cell = cell;
              among = in-last (all_cells layout.nodes to.leaves to.cells) cell;
              link = subst (λ body. IsLinkOfRow Table 4096 layout.spill body (number_of (base + k))) (sym new.body) here;
            }
          ]);
      chained = λ allowed.
          subst (Each (IsChainedCell layout)) (sym grown)
          (each-more (IsChainedCell layout) (all_cells layout.nodes to.leaves to.cells) cell
          (old.chained (all-front (λ (e : Entry). length e.payload < 2 ^ 31) entries (row_entry rowid row ∷ []) allowed))
          (subst (HasChain Table 4096 layout) (sym new.body) (has (all-last (λ (e : Entry). length e.payload < 2 ^ 31) entries (row_entry rowid row) allowed))));
    }
