-- The pages of rows are whole, and as many as leaves where no record goes on in another page.
use Rattle.std.proofs.Common.{◌≡◌, ℕ, ◌+◌, ◌*◌, ◌/◌, ◌%◌, ◌<◌, ◌≤◌, ◌==◌, Bool, true, false, if◌then◌else◌, List, [], ◌∷◌, ◌++◌, length, drop, refl, sym, ap, subst, arith, inl, inr, length-append, nat_le}
use Rattle.std.specs.Prelude.{⊤}
use Rattle.std.proofs.lemmas.Bool.{cases_lt, cond-true, cond-false, le-leb, lt-leb}
use Rattle.sqlite_format.specs.declared.kind.Tree.TheVariants.{Table}
use Rattle.sqlite_format.specs.Cell.{local_len}
use Rattle.db_records.specs.Cell.{cell_bytes}
use Rattle.db_pages.specs.Page.{joined, leaf_page}
use Rattle.db_pages.proofs.Pages.{length-leaf_page}
use Rattle.db_pages.specs.declared.child.Child.{Child}
use Rattle.csv_source.specs.Lists.{is_empty}
use Rattle.db_pages.specs.Laid.{Laid, chain, ended, finished, long_cell, next_place, nothing_laid, roomy, with_long, with_row, with_rows, with_short}
use Rattle.db_pages.proofs.Chains.{long_cell_size}
use Rattle.db_pages.proofs.Cuts.{joined_more}
use Rattle.db_pages.proofs.Sizes.{chain-some, chain-whole, long-size, short-size}

-- so many pages that are no leaves, and cells that fit
pub record Counts (laid : Laid) (others : ℕ) : Type 0 where
  pub pages-are : length laid.pages ≡ 4096 * (length laid.leaves + others)
  pub fits : 8 + 2 * length laid.cells + length (joined laid.cells) ≤ 4096

pub nothing-counts : Counts nothing_laid 0
nothing-counts = record { pages-are = refl; fits = omega arith }

same : (laid laid′ : Laid) (n : ℕ) → laid′ ≡ laid → Counts laid n → Counts laid′ n
same laid laid′ n is c = subst (λ l. Counts l n) (sym is) c

finish : (base : ℕ) (laid : Laid) (n : ℕ) → Counts laid n → Counts (finished base laid) n
finish base laid n c =
    let leaf : Child = record { place = next_place base laid.pages; last = laid.last } in
    record {
      pages-are = omega (arith, c.pages-are, length-append laid.pages (leaf_page laid.cells), length-leaf_page laid.cells c.fits, length-append laid.leaves (leaf ∷ []));
      fits = omega arith;
    }

pub end-counts : (base : ℕ) (laid : Laid) (n : ℕ) → Counts laid n → Counts (ended base laid) n
end-counts base laid n c = by-cells (is_empty laid.cells) refl
  where
    by-cells : (test : Bool) → is_empty laid.cells ≡ test → Counts (ended base laid) n
    by-cells true is = same laid (ended base laid) n (cond-true (is_empty laid.cells) laid (finished base laid) is) c
    by-cells false is = same (finished base laid) (ended base laid) n (cond-false (is_empty laid.cells) laid (finished base laid) is) (finish base laid n c)

record Room (laid : Laid) (n size : ℕ) : Type 0 where
  counts : Counts laid n
  room : 8 + 2 * (length laid.cells + 1) + length (joined laid.cells) + size ≤ 4096

room : (base : ℕ) (laid : Laid) (n size : ℕ) → size ≤ 4086 → Counts laid n → Room (roomy base laid size) n size
room base laid n size small c =
    let used : ℕ = 8 + 2 * (length laid.cells + 1) + length (joined laid.cells) + size in
    elim (cases_lt 4096 used) [
      | inl full ↦
          subst (λ l. Room l n size) (sym (cond-false (nat_le used 4096) laid (finished base laid) (lt-leb used 4096 full)))
          (record { counts = finish base laid n c; room = omega (arith, small) })
      | inr fits ↦
          subst (λ l. Room l n size) (sym (cond-true (nat_le used 4096) laid (finished base laid) (le-leb used 4096 fits)))
          (record { counts = c; room = fits })
    ]

-- one more cell fits
more-fits : (cells : List (List ℕ)) (cell : List ℕ) (size : ℕ) → length cell ≡ size → 8 + 2 * (length cells + 1) + length (joined cells) + size ≤ 4096 →
    8 + 2 * length (cells ++ cell ∷ []) + length (joined (cells ++ cell ∷ [])) ≤ 4096
more-fits cells cell size is h = omega (arith, is, h, length-append cells (cell ∷ []), ap length (joined_more cells cell), length-append (joined cells) cell)

short : (base : ℕ) (laid : Laid) (rowid : ℕ) (row : List ℕ) (n : ℕ) → length row ≤ 4061 → Counts laid n → Counts (with_short base laid rowid row) n
short base laid rowid row n few c =
    let cell : List ℕ = cell_bytes rowid row in
    let to : Laid = roomy base laid (length cell) in
    let r : Room to n (length cell) = room base laid n (length cell) (short-size rowid row few) c in
    record { pages-are = r.counts.pages-are; fits = more-fits to.cells cell (length cell) refl r.room }

-- how many pages a long row takes, beside leaves
abbrev links : ℕ → Laid → ℕ → List ℕ → ℕ
links base laid rowid row =
    length (chain (length row) (next_place base (roomy base laid (length (long_cell 0 rowid row))).pages) (drop (local_len Table 4096 (length row)) row)) / 4096

long : (base : ℕ) (laid : Laid) (rowid : ℕ) (row : List ℕ) (n : ℕ) → Counts laid n → Counts (with_long base laid rowid row) (n + links base laid rowid row)
long base laid rowid row n c =
    let size : ℕ = length (long_cell 0 rowid row) in
    let to : Laid = roomy base laid size in
    let place : ℕ = next_place base to.pages in
    let pages : List ℕ = chain (length row) place (drop (local_len Table 4096 (length row)) row) in
    let r : Room to n size = room base laid n size (long-size 0 rowid row) c in
    record {
      pages-are = omega (arith, r.counts.pages-are, length-append to.pages pages, chain-whole (length row) place (drop (local_len Table 4096 (length row)) row));
      fits = more-fits to.cells (long_cell place rowid row) size (long_cell_size place rowid row) r.room;
    }

links-some : (base : ℕ) (laid : Laid) (rowid : ℕ) (row : List ℕ) → 0 < length row → 0 < links base laid rowid row
links-some base laid rowid row some =
    let place : ℕ = next_place base (roomy base laid (length (long_cell 0 rowid row))).pages in
    let rest : List ℕ = drop (local_len Table 4096 (length row)) row in
    omega (arith, chain-some (length row) place rest some, chain-whole (length row) place rest)

-- how many pages that are no leaves a row adds, none only where it is short
pub record Adds (laid : Laid) (before : ℕ) (IsShort : Type 0) : Type 0 where
  pub added : ℕ
  pub counts : Counts laid (before + added)
  pub none : added ≡ 0 → IsShort

row-adds : (base : ℕ) (laid : Laid) (rowid : ℕ) (row : List ℕ) (n : ℕ) → Counts laid n → Adds (with_row base laid rowid row) n (length row ≤ 4061)
row-adds base laid rowid row n c =
    elim (cases_lt 4061 (length row)) [
      | inl much ↦ record {
        added = links base laid rowid row;
        counts = same (with_long base laid rowid row) (with_row base laid rowid row) (n + links base laid rowid row)
            (cond-false (nat_le (length row) 4061) (with_short base laid rowid row) (with_long base laid rowid row) (lt-leb (length row) 4061 much)) (long base laid rowid row n c);
        none = λ is. absurd (let no : ⊥ = omega (arith, is, links-some base laid rowid row (omega (arith, much))) in no);
      }
      | inr few ↦ record {
        added = 0;
        counts = same (with_short base laid rowid row) (with_row base laid rowid row) (n + 0)
            (cond-true (nat_le (length row) 4061) (with_short base laid rowid row) (with_long base laid rowid row) (le-leb (length row) 4061 few))
            (let e : n ≡ n + 0 = omega arith in subst (λ k. Counts (with_short base laid rowid row) k) e (short base laid rowid row n few c));
        none = λ _. few;
      }
    ]

step-counts : (test : Bool) (base : ℕ) (laid : Laid) (n : ℕ) → Counts laid n → Counts (if test then ended base laid else laid) n
step-counts true base laid n c = end-counts base laid n c
step-counts false base laid n c = c

abbrev pub AllShort : List (List ℕ) → Type 0
AllShort [] = ⊤
AllShort (row ∷ rows) = (length row ≤ 4061) × AllShort rows

pub rows-add : (base : ℕ) (rows : List (List ℕ)) (laid : Laid) (rowid n : ℕ) → Counts laid n → Adds (with_rows base laid rowid rows) n (AllShort rows)
rows-add base [] laid rowid n c = record {
  added = 0;
  counts = let e : n ≡ n + 0 = omega arith in subst (λ k. Counts laid k) e c;
  none = λ _. tt;
}
rows-add base (row ∷ rows) laid rowid n c =
    let next : Laid = with_row base laid rowid row in
    let a : Adds next n (length row ≤ 4061) = row-adds base laid rowid row n c in
    let to : Laid = if rowid % 8192 == 0 then ended base next else next in
    let b : Adds (with_rows base to (rowid + 1) rows) (n + a.added) (AllShort rows) =
    rows-add base rows to (rowid + 1) (n + a.added) (step-counts (rowid % 8192 == 0) base next (n + a.added) a.counts) in
    record {
      added = a.added + b.added;
      counts = let e : n + a.added + b.added ≡ n + (a.added + b.added) = omega arith in subst (λ k. Counts (with_rows base to (rowid + 1) rows) k) e b.counts;
      none = λ is. (a.none (omega (arith, is)), b.none (omega (arith, is)));
    }
