-- Records that go on in other pages, as they are read.
use Rattle.std.proofs.Common.{◌≡◌, ℕ, zero, suc, ◌+◌, ◌-◌, ◌*◌, ◌^◌, ◌<◌, ◌≤◌, true, List, [], ◌++◌, length, take, drop, min, replicate, get_or, refl, sym, ◌∙◌, ap, subst, arith, inl, inr, append_assoc, append-nil, length-append, length-drop, length-take-le}
use Rattle.std.proofs.Math.Seq.{drop-append_seam, take-append_seam}
use Rattle.std.proofs.lemmas.Bool.{cases_lt}
use Rattle.std.proofs.lemmas.Bool.Decides.{nat_tests}
use Rattle.std.proofs.lemmas.List.{get_or-append-add, length-replicate, take-append-drop, take_all, take_at}
use Rattle.sqlite_format.specs.declared.kind.Tree.TheVariants.{Table}
use Rattle.sqlite_format.specs.Bytes.{u32_at}
use Rattle.sqlite_format.specs.Varint.{varint_len, varint_value}
use Rattle.sqlite_format.specs.Cell.{body_key, body_size, first_overflow, flip_sign, head_len, local_len, local_part, payload_len, spilled_len, stored_len}
use Rattle.sqlite_format.proofs.CellLemmas.{overflow_is, stored_len_spilled}
use Rattle.sqlite_btree.specs.Part.{Part}
use Rattle.sqlite_btree.specs.Chain.{IsChain, IsOnChain, Layout, chain_bytes, payload_in}
use Rattle.sqlite_btree.proofs.ChainLemmas.{bytes_none, bytes_step}
use Rattle.db_records.specs.Varint.{varint}
use Rattle.db_records.proofs.Varints.{varint-len, varint-value}
use Rattle.db_pages.specs.Laid.{chain, long_cell}
use Rattle.db_pages.specs.Numbers.{four_bytes, number_of}
use Rattle.db_pages.proofs.Chains.{chain-last, chain-more, last_link, link}
use Rattle.db_pages.proofs.Sizes.{local-most, local-within}
use Rattle.db_reading.specs.Pages.{EachPage, Stand}
use Rattle.db_reading.proofs.Inner.{four-read}
use Rattle.db_reading.proofs.Standing.{each-back, each-first, each-page, stand-back, stand-one}

min-right : (n : ℕ) → n ≤ 4092 → min 4092 n ≡ n
min-right n h = omega (arith, h)

min-left : (n : ℕ) → 4092 ≤ n → min 4092 n ≡ 4092
min-left n h = omega (arith, h)

module _ (part : Part) where
  -- what a page of a chain gives: its bytes, and those of the pages behind it
  one-page : (fuel place next left : ℕ) (here behind page : List ℕ) → 0 < left → part (number_of place) ≡ page → u32_at page 0 ≡ next →
      take (min 4092 left) (drop 4 page) ≡ here → chain_bytes part 4096 fuel next (left - min 4092 left) ≡ behind →
      chain_bytes part 4096 (suc fuel) (number_of place) left ≡ here ++ behind
  one-page fuel place next left here behind page some is names front rest =
      bytes_step part 4096 fuel (number_of place) left some
      ∙ ap (λ p. take (min 4092 left) (drop 4 p) ++ chain_bytes part 4096 fuel (u32_at p 0) (left - min 4092 left)) is
      ∙ ap (λ xs. xs ++ chain_bytes part 4096 fuel (u32_at page 0) (left - min 4092 left)) front
      ∙ ap (λ n. here ++ chain_bytes part 4096 fuel n (left - min 4092 left)) names
      ∙ ap (λ xs. here ++ xs) rest

  pub chain-read : (fuel gas place : ℕ) (rest : List ℕ) → 0 < length rest → length rest ≤ fuel → length rest < gas → Stand part place (chain gas place rest) →
      chain_bytes part 4096 fuel (number_of place) (length rest) ≡ rest
  chain-read zero gas place rest some enough more stand = absurd (let no : ⊥ = omega (arith, some, enough) in no)
  chain-read (suc fuel) zero place rest some enough more stand = absurd (let no : ⊥ = omega (arith, more) in no)
  chain-read (suc fuel) (suc gas) place rest some enough more stand =
      elim (cases_lt 4092 (length rest)) [
        | inl long ↦ longer long (chain-read fuel gas (place + 1) (drop 4092 rest))
        | inr short ↦ last short
      ]
    where
      last : length rest ≤ 4092 → chain_bytes part 4096 (suc fuel) (number_of place) (length rest) ≡ rest
      last short =
          let zeros : List ℕ = replicate (4092 - length rest) 0 in
          let page : List ℕ = last_link rest in
          let size : length page ≡ 4096 = omega (arith, short, length-append rest zeros, length-replicate {A = ℕ} (4092 - length rest) 0) in
          let stand′ : Stand part place (page ++ []) = subst (Stand part place) (chain-last gas place rest short ∙ sym (append-nil page)) stand in
          let all : min 4092 (length rest) ≡ length rest = min-right (length rest) short in
          one-page fuel place 0 (length rest) rest [] page some (stand-one part place page [] size stand′) refl
          (ap (λ k. take k (rest ++ zeros)) all ∙ take-append_seam rest zeros)
          (bytes_none part 4096 fuel 0 (length rest - min 4092 (length rest)) (omega (arith, all)))
          ∙ append-nil rest

      longer : 4092 < length rest →
          (0 < length (drop 4092 rest) → length (drop 4092 rest) ≤ fuel → length (drop 4092 rest) < gas → Stand part (place + 1) (chain gas (place + 1) (drop 4092 rest)) →
          chain_bytes part 4096 fuel (number_of (place + 1)) (length (drop 4092 rest)) ≡ drop 4092 rest) →
          chain_bytes part 4096 (suc fuel) (number_of place) (length rest) ≡ rest
      longer long others-read =
          let next : ℕ = number_of (place + 1) in
          let front : List ℕ = take 4092 rest in
          let behind : List ℕ = drop 4092 rest in
          let others : List ℕ = chain gas (place + 1) behind in
          let page : List ℕ = four_bytes next ++ front in
          let count : length front ≡ 4092 = length-take-le 4092 rest (omega (arith, long)) in
          let size : length page ≡ 4096 = omega (arith, count) in
          let left : length behind ≡ length rest - 4092 = length-drop 4092 rest in
          let stand′ : Stand part place (page ++ others) = subst (Stand part place) (chain-more gas place rest long) stand in
          let most : min 4092 (length rest) ≡ 4092 = min-left (length rest) (omega (arith, long)) in
          let same : length rest - min 4092 (length rest) ≡ length behind = omega (arith, most, left) in
          one-page fuel place next (length rest) front behind page some (stand-one part place page others size stand′) (four-read next)
          (take_all (min 4092 (length rest)) front (omega (arith, most, count)))
          (ap (λ k. chain_bytes part 4096 fuel next k) same
          ∙ others-read (omega (arith, left, long)) (omega (arith, left, long, enough)) (omega (arith, left, long, more))
          (stand-back part place 1 page others size stand′))
          ∙ take-append-drop 4092 rest

at-behind : (pre xs : List ℕ) (k j : ℕ) → k ≡ length pre + j → get_or (pre ++ xs) k 0 ≡ get_or xs j 0
at-behind pre xs k j is = ap (λ i. get_or (pre ++ xs) i 0) is ∙ get_or-append-add pre xs j 0

u32-behind : (pre xs : List ℕ) (k : ℕ) → k ≡ length pre → u32_at (pre ++ xs) k ≡ u32_at xs 0
u32-behind pre xs k is =
    omega (
      arith,
      at-behind pre xs k 0 (omega (arith, is)),
      at-behind pre xs (k + 1) 1 (omega (arith, is)),
      at-behind pre xs (k + 2) 2 (omega (arith, is)),
      at-behind pre xs (k + 2 + 1) 3 (omega (arith, is)),
    )

pub local-some : (n : ℕ) → 0 < n → 0 < local_len Table 4096 n
unfolding local_len
local-some n some = grind (arith, nat_tests)

overflow-at : (row : List ℕ) → 4061 < payload_len row → first_overflow Table 4096 row ≡ u32_at row (head_len Table row + local_len Table 4096 (payload_len row))
overflow-at row long = overflow_is Table 4096 row long

-- the cell of a record that goes on at a place: its size, its rowid, what it has of the record, and where that goes on
pub record LongCell (place rowid : ℕ) (row cell : List ℕ) : Type 0 where
  pub size : body_size Table true 4096 cell ≡ length cell
  pub key : body_key Table true cell ≡ flip_sign rowid
  pub len : payload_len cell ≡ length row
  pub front : local_part Table 4096 cell ≡ take (local_len Table 4096 (length row)) row
  pub next : first_overflow Table 4096 cell ≡ number_of place

pub long-cell : (place rowid : ℕ) (row : List ℕ) → rowid < 2 ^ 56 → length row < 2 ^ 56 → 4061 < length row → LongCell place rowid row (long_cell place rowid row)
unfolding body_size body_key local_part
long-cell place rowid row small short long =
    let n : ℕ = length row in
    let l : ℕ = local_len Table 4096 n in
    let a : List ℕ = varint n in
    let b : List ℕ = varint rowid in
    let d : List ℕ = take l row in
    let e : List ℕ = four_bytes (number_of place) in
    let cell : List ℕ = long_cell place rowid row in
    let four : length e ≡ 4 = refl in
    let size-d : length d ≡ l = length-take-le l row (local-within n) in
    let len1 : varint_len cell ≡ length a = varint-len n (b ++ (d ++ e)) short in
    let value1 : varint_value cell ≡ n = varint-value n (b ++ (d ++ e)) short in
    let behind1 : drop (varint_len cell) cell ≡ b ++ (d ++ e) = ap (λ k. drop k cell) len1 ∙ drop-append_seam a (b ++ (d ++ e)) in
    let len2 : varint_len (drop (varint_len cell) cell) ≡ length b = ap varint_len behind1 ∙ varint-len rowid (d ++ e) small in
    let value2 : varint_value (drop (varint_len cell) cell) ≡ rowid = ap varint_value behind1 ∙ varint-value rowid (d ++ e) small in
    let regroup : cell ≡ (a ++ b) ++ (d ++ e) = sym (append_assoc a b (d ++ e)) in
    let head : head_len Table cell ≡ length (a ++ b) = omega (arith, len1, len2, length-append a b) in
    let local : local_len Table 4096 (payload_len cell) ≡ l = ap (local_len Table 4096) value1 in
    let stored : stored_len Table 4096 (payload_len cell) ≡ l + 4 = ap (stored_len Table 4096) value1 ∙ stored_len_spilled Table 4096 n long in
    let behind2 : drop (head_len Table cell) cell ≡ d ++ e = ap (λ k. drop k cell) head ∙ ap (λ xs. drop (length (a ++ b)) xs) regroup ∙ drop-append_seam (a ++ b) (d ++ e) in
    let whole : cell ≡ ((a ++ b) ++ d) ++ e = regroup ∙ sym (append_assoc (a ++ b) d e) in
    record {
      size = omega (arith, head, stored, four, size-d, length-append a (b ++ (d ++ e)), length-append b (d ++ e), length-append d e, length-append a b);
      key = ap flip_sign value2;
      len = value1;
      front = ap (λ k. take k (drop (head_len Table cell) cell)) local ∙ ap (λ xs. take l xs) behind2 ∙ take_at d e l size-d;
      next = overflow-at cell (omega (arith, value1, long))
          ∙ ap (λ xs. u32_at xs (head_len Table cell + local_len Table 4096 (payload_len cell))) whole
          ∙ u32-behind ((a ++ b) ++ d) e (head_len Table cell + local_len Table 4096 (payload_len cell)) (omega (arith, head, local, size-d, length-append (a ++ b) d))
          ∙ four-read (number_of place);
    }

pub chain-reads : (part : Part) (place rowid : ℕ) (row : List ℕ) → rowid < 2 ^ 56 → length row < 2 ^ 56 → 4061 < length row →
    Stand part place (chain (length row) place (drop (local_len Table 4096 (length row)) row)) → payload_in Table 4096 part (long_cell place rowid row) ≡ row
unfolding payload_in
chain-reads part place rowid row small short long stand =
    let n : ℕ = length row in
    let l : ℕ = local_len Table 4096 n in
    let cell : List ℕ = long_cell place rowid row in
    let c : LongCell place rowid row cell = long-cell place rowid row small short long in
    let rest : List ℕ = drop l row in
    let left : length rest ≡ n - l = length-drop l row in
    let spilled : spilled_len Table 4096 cell ≡ length rest = ap (λ k. k - local_len Table 4096 k) c.len ∙ sym left in
    ap (λ xs. xs ++ chain_bytes part 4096 (spilled_len Table 4096 cell) (first_overflow Table 4096 cell) (spilled_len Table 4096 cell)) c.front
    ∙ ap (λ k. take l row ++ chain_bytes part 4096 k (first_overflow Table 4096 cell) k) spilled
    ∙ ap (λ p. take l row ++ chain_bytes part 4096 (length rest) p (length rest)) c.next
    ∙ ap (λ xs. take l row ++ xs)
    (chain-read part (length rest) n place rest (omega (arith, left, long, local-most n)) (omega arith) (omega (arith, left, long, local-some n (omega (arith, long)))) stand)
    ∙ take-append-drop l row

-- it has the number of a page
pub long-some : (place rowid : ℕ) (row : List ℕ) → 4 ≤ length (long_cell place rowid row)
long-some place rowid row =
    let a : List ℕ = varint (length row) in
    let b : List ℕ = varint rowid in
    let d : List ℕ = take (local_len Table 4096 (length row)) row in
    let e : List ℕ = four_bytes (number_of place) in
    let four : length e ≡ 4 = refl in
    omega (arith, four, length-append a (b ++ (d ++ e)), length-append b (d ++ e), length-append d e)

-- its pages hold the rest of it
pub chain-holds : (fuel place : ℕ) (rest : List ℕ) → length rest < fuel → length rest ≤ length (chain fuel place rest)
chain-holds zero place rest enough = absurd (let no : ⊥ = omega (arith, enough) in no)
chain-holds (suc fuel) place rest enough =
    elim (cases_lt 4092 (length rest)) [
      | inl long ↦
          let others : List ℕ = chain fuel (place + 1) (drop 4092 rest) in
          omega (
            arith,
            ap length (chain-more fuel place rest long),
            length-append (take 4092 rest) others,
            length-take-le 4092 rest (omega (arith, long)),
            length-drop 4092 rest,
            chain-holds fuel (place + 1) (drop 4092 rest) (omega (arith, enough, long, length-drop 4092 rest)),
          )
      | inr short ↦ omega (arith, ap length (chain-last fuel place rest short), length-append rest (replicate (4092 - length rest) 0))
    ]

pub chain-none : (layout : Layout) (row : List ℕ) (fuel page left : ℕ) → left ≡ 0 → page ≡ 0 → IsChain layout 4096 row fuel page left
chain-none layout row zero page left none last = (none, last)
chain-none layout row (suc fuel) page left none last = inl (none, last)

past-zero : (place : ℕ) → 0 < place → 1 < number_of place
past-zero place some = grind (arith, nat_tests)

module _ (layout : Layout) (row : List ℕ) where
  -- a page of a layout that holds the rest of the row
  abbrev pub IsLink : ℕ → List ℕ → Type 0
  IsLink number page = (layout.spill number ≡ page) × (layout.owner number ≡ row)

  one-link : (fuel place left next : ℕ) (page : List ℕ) → 0 < left → 0 < place → length page ≡ 4096 → u32_at page 0 ≡ next → IsLink (number_of place) page →
      IsChain layout 4096 row fuel next (left - min 4092 left) → IsChain layout 4096 row (suc fuel) (number_of place) left
  one-link fuel place left next page some past size names link rest =
      let points : u32_at (layout.spill (number_of place)) 0 ≡ next = ap (λ p. u32_at p 0) link.0 ∙ names in
      inr (some, past-zero place past, ap length link.0 ∙ size, link.1, subst (λ n. IsChain layout 4096 row fuel n (left - min 4092 left)) (sym points) rest)

  -- the pages of a chain are the row's own
  pub chain-owned : (fuel gas place : ℕ) (rest : List ℕ) → 0 < place → 0 < length rest → length rest ≤ fuel → length rest < gas → EachPage IsLink place (chain gas place rest) →
      IsChain layout 4096 row fuel (number_of place) (length rest)
  chain-owned zero gas place rest past some enough more links = absurd (let no : ⊥ = omega (arith, some, enough) in no)
  chain-owned (suc fuel) zero place rest past some enough more links = absurd (let no : ⊥ = omega (arith, more) in no)
  chain-owned (suc fuel) (suc gas) place rest past some enough more links =
      elim (cases_lt 4092 (length rest)) [
        | inl long ↦
            let behind : List ℕ = drop 4092 rest in
            let others : List ℕ = chain gas (place + 1) behind in
            let page : List ℕ = four_bytes (number_of (place + 1)) ++ take 4092 rest in
            let size : length page ≡ 4096 = omega (arith, length-take-le 4092 rest (omega (arith, long))) in
            let left : length behind ≡ length rest - 4092 = length-drop 4092 rest in
            let links′ : EachPage IsLink place (page ++ others) = subst (EachPage IsLink place) (chain-more gas place rest long) links in
            let same : length behind ≡ length rest - min 4092 (length rest) = omega (arith, left, min-left (length rest) (omega (arith, long))) in
            one-link fuel place (length rest) (number_of (place + 1)) page some past size (four-read (number_of (place + 1))) (each-first IsLink place page others size links′)
            (subst (λ n. IsChain layout 4096 row fuel (number_of (place + 1)) n) same
            (chain-owned fuel gas (place + 1) behind (omega arith) (omega (arith, left, long)) (omega (arith, left, long, enough)) (omega (arith, left, long, more))
            (each-back IsLink place 1 page others size links′)))
        | inr short ↦
            let zeros : List ℕ = replicate (4092 - length rest) 0 in
            let page : List ℕ = last_link rest in
            let size : length page ≡ 4096 = omega (arith, short, length-append rest zeros, length-replicate {A = ℕ} (4092 - length rest) 0) in
            one-link fuel place (length rest) 0 page some past size refl (each-page IsLink place page size (subst (EachPage IsLink place) (chain-last gas place rest short) links))
            (chain-none layout row fuel 0 (length rest - min 4092 (length rest)) (omega (arith, min-right (length rest) short)) refl)
      ]

  -- and each of them is on the chain
  pub chain-reached : (fuel gas place : ℕ) (rest : List ℕ) → 0 < length rest → length rest ≤ fuel → length rest < gas → EachPage IsLink place (chain gas place rest) →
      (k : ℕ) → 4096 * (k + 1) ≤ length (chain gas place rest) → IsOnChain layout.spill 4096 fuel (number_of place) (length rest) (number_of (place + k))
  chain-reached zero gas place rest some enough more links k within = absurd (let no : ⊥ = omega (arith, some, enough) in no)
  chain-reached (suc fuel) zero place rest some enough more links k within = absurd (let no : ⊥ = omega (arith, more) in no)
  chain-reached (suc fuel) (suc gas) place rest some enough more links zero within =
      let e : place + 0 ≡ place = omega arith in (some, inl (ap number_of e))
  chain-reached (suc fuel) (suc gas) place rest some enough more links (suc k) within =
      elim (cases_lt 4092 (length rest)) [
        | inl long ↦
            let behind : List ℕ = drop 4092 rest in
            let others : List ℕ = chain gas (place + 1) behind in
            let page : List ℕ = four_bytes (number_of (place + 1)) ++ take 4092 rest in
            let size : length page ≡ 4096 = omega (arith, length-take-le 4092 rest (omega (arith, long))) in
            let left : length behind ≡ length rest - 4092 = length-drop 4092 rest in
            let links′ : EachPage IsLink place (page ++ others) = subst (EachPage IsLink place) (chain-more gas place rest long) links in
            let same : length behind ≡ length rest - min 4092 (length rest) = omega (arith, left, min-left (length rest) (omega (arith, long))) in
            let points : number_of (place + 1) ≡ u32_at (layout.spill (number_of place)) 0 =
            sym (ap (λ p. u32_at p 0) (each-first IsLink place page others size links′).0 ∙ four-read (number_of (place + 1))) in
            let e : place + 1 + k ≡ place + suc k = omega arith in
            let longer : length (chain (suc gas) place rest) ≡ length page + length others = ap length (chain-more gas place rest long) ∙ length-append page others in (
              some,
              inr (subst (λ n. IsOnChain layout.spill 4096 fuel n (length rest - min 4092 (length rest)) (number_of (place + suc k))) points
                  (subst (λ n. IsOnChain layout.spill 4096 fuel (number_of (place + 1)) n (number_of (place + suc k))) same
                  (subst (λ p. IsOnChain layout.spill 4096 fuel (number_of (place + 1)) (length behind) (number_of p)) e
                  (chain-reached fuel gas (place + 1) behind (omega (arith, left, long)) (omega (arith, left, long, enough)) (omega (arith, left, long, more))
                  (each-back IsLink place 1 page others size links′) k (omega (arith, within, longer, size)))))),
            )
        | inr short ↦
            let zeros : List ℕ = replicate (4092 - length rest) 0 in
            absurd (let no : ⊥ = omega (arith, within, ap length (chain-last gas place rest short), short, length-append rest zeros, length-replicate {A = ℕ} (4092 - length rest) 0) in no)
      ]
