-- The cells of leaves, as they are read.
use Rattle.std.proofs.Common.{◌≡◌, ℕ, ◌+◌, ◌-◌, ◌*◌, ◌^◌, ◌<◌, ◌≤◌, max, true, List, [], ◌++◌, length, take, drop, sym, ◌∙◌, ap, subst, arith, append-nil, length-append, length-drop}
use Rattle.std.proofs.lemmas.List.{take_all}
use Rattle.sqlite_format.specs.declared.kind.Tree.TheVariants.{Table}
use Rattle.sqlite_format.specs.Varint.{varint_len}
use Rattle.sqlite_format.specs.Cell.{IsCell, body_key, body_size, cell_body, cell_size, first_overflow, flip_sign, local_len, local_part, payload_len, spilled_len}
use Rattle.sqlite_format.proofs.CellLemmas.{stored_len_whole}
use Rattle.sqlite_btree.specs.Part.{Part}
use Rattle.sqlite_btree.specs.Items.{item_in}
use Rattle.sqlite_btree.specs.Chain.{Entry, HasChain, IsChain, IsLinkOfRow, IsOnChain, Layout, chain_bytes, entry_of, payload_in}
use Rattle.sqlite_btree.proofs.ChainLemmas.{bytes_none}
use Rattle.db_records.specs.Cell.{cell_bytes}
use Rattle.db_records.specs.Laws.{CellReads}
use Rattle.db_pages.specs.Laws.{leaf_kind}
use Rattle.db_records.specs.Varint.{varint}
use Rattle.db_records.proofs.Cells.{cell-reads}
use Rattle.db_records.proofs.Varints.{varint-len, varint-size, varint-value}
use Rattle.db_pages.specs.Laid.{chain, long_cell}
use Rattle.db_pages.specs.Numbers.{four_bytes, number_of}
use Rattle.db_pages.proofs.Sizes.{local-most, varint-short}
use Rattle.db_reading.specs.Entries.{row_entry}
use Rattle.db_reading.specs.Pages.{EachPage, Stand}
use Rattle.db_reading.proofs.Overflow.{IsLink, LongCell, chain-none, chain-owned, chain-reached, chain-reads, local-some, long-cell, long-some}

-- what a leaf's cell says, where the pages of a file are these
abbrev pub leaf_entry : Part → List ℕ → Entry
leaf_entry part cell = entry_of Table 4096 part (item_in leaf_kind 4096 cell)

-- a whole cell of this row
pub record SaysRow (part : Part) (rowid : ℕ) (row cell : List ℕ) : Type 0 where
  pub whole : IsCell leaf_kind 4096 cell
  pub body : cell_body leaf_kind 4096 cell ≡ cell
  pub entry : leaf_entry part cell ≡ row_entry rowid row

max-right : (n : ℕ) → 4 ≤ n → max 4 n ≡ n
max-right n h = omega (arith, h)

-- from its size, its key and its record
says : (part : Part) (rowid : ℕ) (row cell : List ℕ) → 4 ≤ length cell → body_size Table true 4096 cell ≡ length cell → body_key Table true cell ≡ flip_sign rowid →
    payload_in Table 4096 part cell ≡ row → SaysRow part rowid row cell
unfolding cell_size cell_body
says part rowid row cell some size key payload =
    let body : take (body_size Table true 4096 cell) cell ≡ cell = take_all (body_size Table true 4096 cell) cell (omega (arith, size)) in
    record {
      whole = ap (λ n. max 4 n) size ∙ max-right (length cell) some;
      body = body;
      entry = ap (λ bytes. record { row = true; key = body_key Table true bytes; payload = payload_in Table 4096 part bytes }) body
          ∙ ap (λ k. record { row = true; key = k; payload = payload_in Table 4096 part cell }) key
          ∙ ap (λ bytes. record { row = true; key = flip_sign rowid; payload = bytes }) payload;
    }

short-payload : (part : Part) (rowid : ℕ) (row : List ℕ) → length row ≤ 4061 → local_part Table 4096 (cell_bytes rowid row) ≡ row → payload_in Table 4096 part (cell_bytes rowid row) ≡ row
unfolding payload_in
short-payload part rowid row short whole =
    let cell : List ℕ = cell_bytes rowid row in
    let len : payload_len cell ≡ length row = varint-value (length row) (varint rowid ++ row) (omega (arith, short)) in
    let none : spilled_len Table 4096 cell ≡ 0 =
    ap (λ n. n - local_len Table 4096 n) len ∙ omega (arith, (stored_len_whole Table 4096 (length row) (omega (arith, short))).1) in
    ap (λ xs. xs ++ chain_bytes part 4096 (spilled_len Table 4096 cell) (first_overflow Table 4096 cell) (spilled_len Table 4096 cell)) whole
    ∙ ap (λ xs. row ++ xs) (bytes_none part 4096 (spilled_len Table 4096 cell) (first_overflow Table 4096 cell) (spilled_len Table 4096 cell) none)
    ∙ append-nil row

pub short-says : (part : Part) (rowid : ℕ) (row : List ℕ) → rowid < 2 ^ 56 → length row ≤ 4061 → 1 < length row → SaysRow part rowid row (cell_bytes rowid row)
short-says part rowid row small short some =
    let cell : List ℕ = cell_bytes rowid row in
    let c : CellReads rowid row cell = subst (CellReads rowid row) (append-nil cell) (cell-reads rowid row [] small short) in
    let long : 4 ≤ length cell =
    omega (arith, some, length-append (varint (length row)) (varint rowid ++ row), length-append (varint rowid) row, varint-size (length row), varint-size rowid) in
    says part rowid row cell long c.size c.key (short-payload part rowid row short c.whole)

pub long-says : (part : Part) (place rowid : ℕ) (row : List ℕ) → rowid < 2 ^ 56 → length row < 2 ^ 56 → 4061 < length row →
    Stand part place (chain (length row) place (drop (local_len Table 4096 (length row)) row)) → SaysRow part rowid row (long_cell place rowid row)
long-says part place rowid row small short long stand =
    let cell : List ℕ = long_cell place rowid row in
    let c : LongCell place rowid row cell = long-cell place rowid row small short long in
    says part rowid row cell (omega (arith, long-some place rowid row)) c.size c.key (chain-reads part place rowid row small short long stand)

-- a row that stays whole has no chain
pub short-chained : (layout : Layout) (rowid : ℕ) (row : List ℕ) → rowid < 2 ^ 56 → length row ≤ 4061 → HasChain Table 4096 layout (cell_bytes rowid row)
short-chained layout rowid row small short =
    let cell : List ℕ = cell_bytes rowid row in
    let c : CellReads rowid row cell = subst (CellReads rowid row) (append-nil cell) (cell-reads rowid row [] small short) in
    let len : payload_len cell ≡ length row = varint-value (length row) (varint rowid ++ row) (omega (arith, short)) in
    let size : varint_len cell ≡ length (varint (length row)) = varint-len (length row) (varint rowid ++ row) (omega (arith, short)) in
    let none : spilled_len Table 4096 cell ≡ 0 =
    ap (λ n. n - local_len Table 4096 n) len ∙ omega (arith, (stored_len_whole Table 4096 (length row) (omega (arith, short))).1) in
    record {
      limit = omega (arith, len, short);
      short = omega (arith, size, varint-short (length row));
      chain = chain-none layout cell (spilled_len Table 4096 cell) (first_overflow Table 4096 cell) (spilled_len Table 4096 cell) none c.alone;
    }

-- the rest of a longer row
module _ (layout : Layout) (place rowid : ℕ) (row : List ℕ) (small : rowid < 2 ^ 56) (short : length row < 2 ^ 56) (long : 4061 < length row)
    (links : EachPage (IsLink layout (long_cell place rowid row)) place (chain (length row) place (drop (local_len Table 4096 (length row)) row))) where
  abbrev cell : List ℕ
  cell = long_cell place rowid row

  abbrev rest : List ℕ
  rest = drop (local_len Table 4096 (length row)) row

  left : length rest ≡ length row - local_len Table 4096 (length row)
  left = length-drop (local_len Table 4096 (length row)) row

  the-cell : LongCell place rowid row cell
  the-cell = long-cell place rowid row small short long

  spilled : spilled_len Table 4096 cell ≡ length rest
  spilled = ap (λ k. k - local_len Table 4096 k) the-cell.len ∙ sym left

  some-left : 0 < length rest
  some-left = omega (arith, left, long, local-most (length row))

  fewer : length rest < length row
  fewer = omega (arith, left, long, local-some (length row) (omega (arith, long)))

  pub long-chained : 0 < place → length row < 2 ^ 31 → HasChain Table 4096 layout cell
  long-chained past limit =
      let size : varint_len cell ≡ length (varint (length row)) =
      varint-len (length row) (varint rowid ++ (take (local_len Table 4096 (length row)) row ++ four_bytes (number_of place))) short in
      record {
        limit = omega (arith, the-cell.len, limit);
        short = omega (arith, size, varint-short (length row));
        chain = subst (λ n. IsChain layout 4096 cell n (first_overflow Table 4096 cell) n) (sym spilled)
            (subst (λ p. IsChain layout 4096 cell (length rest) p (length rest)) (sym the-cell.next)
            (chain-owned layout cell (length rest) (length row) place rest past some-left (omega arith) fewer links));
      }

  pub long-linked : (k : ℕ) → 4096 * (k + 1) ≤ length (chain (length row) place rest) → IsLinkOfRow Table 4096 layout.spill cell (number_of (place + k))
  long-linked k within =
      subst (λ n. IsOnChain layout.spill 4096 n (first_overflow Table 4096 cell) n (number_of (place + k))) (sym spilled)
      (subst (λ p. IsOnChain layout.spill 4096 (length rest) p (length rest) (number_of (place + k))) (sym the-cell.next)
      (chain-reached layout cell (length rest) (length row) place rest some-left (omega arith) fewer links k within))
