-- The pages in which a record goes on.
use Rattle.std.proofs.Common.{◌≡◌, ℕ, zero, suc, ◌+◌, ◌-◌, ◌<◌, ◌≤◌, List, [], ◌∷◌, ◌++◌, length, take, drop, replicate, refl, sym, ◌∙◌, ap, arith, inl, inr, append_assoc, length-append, length-drop, nat_le}
use Rattle.std.proofs.lemmas.Bool.{cases_lt, cond-true, cond-false, le-leb, lt-leb}
use Rattle.db_pages.specs.Numbers.{four_bytes, number_of}
use Rattle.sqlite_format.specs.declared.kind.Tree.TheVariants.{Table}
use Rattle.sqlite_format.specs.Cell.{local_len}
use Rattle.db_records.specs.Varint.{varint}
use Rattle.db_pages.specs.Laid.{chain, long_cell, next_place}
use Rattle.db_pages.specs.Grown.{Filled}
use Rattle.db_pages.specs.declared.child.Child.{Child}

-- the last page, and a page with others behind it
abbrev pub last_link : List ℕ → List ℕ
last_link rest = four_bytes 0 ++ (rest ++ replicate (4092 - length rest) 0)

abbrev pub link : ℕ → List ℕ → List ℕ → List ℕ
link place rest behind = four_bytes (number_of (place + 1)) ++ (take 4092 rest ++ behind)

pub chain-last : (fuel place : ℕ) (rest : List ℕ) → length rest ≤ 4092 → chain (suc fuel) place rest ≡ last_link rest
chain-last fuel place rest short =
    cond-true (nat_le (length rest) 4092) (last_link rest) (link place rest (chain fuel (place + 1) (drop 4092 rest))) (le-leb (length rest) 4092 short)

pub chain-more : (fuel place : ℕ) (rest : List ℕ) → 4092 < length rest → chain (suc fuel) place rest ≡ link place rest (chain fuel (place + 1) (drop 4092 rest))
chain-more fuel place rest long =
    cond-false (nat_le (length rest) 4092) (last_link rest) (link place rest (chain fuel (place + 1) (drop 4092 rest))) (lt-leb (length rest) 4092 long)

-- enough is as good as more
pub chain-enough : (fuel more place : ℕ) (rest : List ℕ) → length rest < fuel → length rest < more → chain fuel place rest ≡ chain more place rest
chain-enough zero more place rest some others = absurd (let no : ⊥ = omega (arith, some) in no)
chain-enough (suc fuel) zero place rest some others = absurd (let no : ⊥ = omega (arith, others) in no)
chain-enough (suc fuel) (suc more) place rest some others =
    elim (cases_lt 4092 (length rest)) [
      | inl long ↦
          chain-more fuel place rest long
          ∙ ap (link place rest) (chain-enough fuel more (place + 1) (drop 4092 rest) (omega (arith, long, some, length-drop 4092 rest)) (omega (arith, long, others, length-drop 4092 rest)))
          ∙ sym (chain-more more place rest long)
      | inr short ↦ chain-last fuel place rest short ∙ sym (chain-last more place rest short)
    ]

-- a page more was appended, and a shorter chain is left
pub chain-step : (place next : ℕ) (rest front behind old into first second : List ℕ) → 4092 < length rest → next ≡ place + 1 →
    front ≡ take 4092 rest → behind ≡ drop 4092 rest → old ≡ into ++ chain (length rest + 1) place rest →
    first ≡ into ++ four_bytes (number_of next) → second ≡ first ++ front → old ≡ second ++ chain (length behind + 1) next behind
chain-step place next rest front behind old into first second long follows is-front is-behind before one two =
    let more : List ℕ = chain (length behind + 1) next behind in
    let number : List ℕ = four_bytes (number_of next) in
    let shorter : length behind < length rest = omega (arith, ap length is-behind, length-drop 4092 rest, long) in
    let e : length rest + 1 ≡ suc (length rest) = omega arith in
    let left : chain (length rest) (place + 1) (drop 4092 rest) ≡ more =
    ap (λ p. chain (length rest) p (drop 4092 rest)) (sym follows) ∙ ap (λ xs. chain (length rest) next xs) (sym is-behind)
    ∙ chain-enough (length rest) (length behind + 1) next behind shorter (omega arith) in
    before
    ∙ ap (λ fuel. into ++ chain fuel place rest) e
    ∙ ap (λ xs. into ++ xs) (chain-more (length rest) place rest long)
    ∙ ap (λ xs. into ++ link place rest xs) left
    ∙ ap (λ p. into ++ (four_bytes (number_of p) ++ (take 4092 rest ++ more))) (sym follows)
    ∙ ap (λ xs. into ++ (number ++ (xs ++ more))) (sym is-front)
    ∙ sym (append_assoc into number (front ++ more))
    ∙ ap (λ xs. xs ++ (front ++ more)) (sym one)
    ∙ sym (append_assoc first front more)
    ∙ ap (λ xs. xs ++ more) (sym two)

pub chain-end : (place : ℕ) (rest : List ℕ) → length rest ≤ 4092 → chain (length rest + 1) place rest ≡ last_link rest
chain-end place rest short = let e : length rest + 1 ≡ suc (length rest) = omega arith in ap (λ fuel. chain fuel place rest) e ∙ chain-last (length rest) place rest short

-- a long cell has the same size wherever it goes on
pub long_cell_size : (place rowid : ℕ) (row : List ℕ) → length (long_cell place rowid row) ≡ length (long_cell 0 rowid row)
long_cell_size place rowid row =
    let a : List ℕ = varint (length row) in
    let b : List ℕ = varint rowid in
    let d : List ℕ = take (local_len Table 4096 (length row)) row in
    size_of a b d (four_bytes (number_of place)) (four_bytes (number_of 0)) refl
  where
    size_of : (a b d e f : List ℕ) → length e ≡ length f → length (a ++ (b ++ (d ++ e))) ≡ length (a ++ (b ++ (d ++ f)))
    size_of a b d e f same =
        omega (arith, same, length-append a (b ++ (d ++ e)), length-append b (d ++ e), length-append d e, length-append a (b ++ (d ++ f)), length-append b (d ++ f), length-append d f)

-- a long row, where there is room for its cell
abbrev pub after_long : Filled → ℕ → List ℕ → Filled
after_long f rowid row =
    let place = next_place f.base f.laid.pages in
    record {
      base = f.base;
      laid = record {
        pages = f.laid.pages ++ chain (length row) place (drop (local_len Table 4096 (length row)) row);
        leaves = f.laid.leaves;
        cells = f.laid.cells ++ long_cell place rowid row ∷ [];
        last = rowid;
      };
    }

pub chain_of_rest : (local place : ℕ) (row : List ℕ) → 0 < local → local ≤ length row →
    chain (length (drop local row) + 1) place (drop local row) ≡ chain (length row) place (drop local row)
chain_of_rest local place row some within =
    chain-enough (length (drop local row) + 1) (length row) place (drop local row) (omega arith) (omega (arith, length-drop local row, some, within))

pub after_long_is : (base : ℕ) (pages : List ℕ) (leaves : List Child) (cells : List (List ℕ)) (last rowid : ℕ) (row rest : List ℕ) (place local : ℕ)
    (pages′ : List ℕ) (cells′ : List (List ℕ)) →
    place ≡ next_place base pages → local ≡ local_len Table 4096 (length row) → 0 < local → local ≤ length row →
    rest ≡ drop local row → pages′ ≡ pages ++ chain (length rest + 1) place rest → cells′ ≡ cells ++ long_cell place rowid row ∷ [] →
    (record { base = base; laid = record { pages = pages′; leaves = leaves; cells = cells′; last = rowid } })
    ≡ after_long (record { base = base; laid = record { pages = pages; leaves = leaves; cells = cells; last = last } }) rowid row
after_long_is base pages leaves cells last rowid row rest place local pages′ cells′ at size some within behind out added =
    let here = next_place base pages in
    let pages-are : pages′ ≡ pages ++ chain (length row) here (drop (local_len Table 4096 (length row)) row) =
    out ∙ ap (λ xs. pages ++ chain (length xs + 1) place xs) behind ∙ ap (λ xs. pages ++ xs) (chain_of_rest local place row some within)
    ∙ ap (λ p. pages ++ chain (length row) p (drop local row)) at ∙ ap (λ n. pages ++ chain (length row) here (drop n row)) size in
    let cells-are : cells′ ≡ cells ++ long_cell here rowid row ∷ [] = added ∙ ap (λ p. cells ++ long_cell p rowid row ∷ []) at in
    ap (λ ps. record { base = base; laid = record { pages = ps; leaves = leaves; cells = cells′; last = rowid } }) pages-are
    ∙ ap (λ cs. record { base = base; laid = record { pages = pages ++ chain (length row) here (drop (local_len Table 4096 (length row)) row); leaves = leaves; cells = cs; last = rowid } }) cells-are
