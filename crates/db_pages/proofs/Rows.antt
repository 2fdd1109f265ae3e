-- Rows that are laid out behind others.
use Rattle.std.proofs.Common.{◌≡◌, ℕ, suc, ◌+◌, ◌%◌, ◌==◌, ◌<◌, if◌then◌else◌, List, [], ◌∷◌, ◌++◌, length, map, take, get_or, ◌∙◌, ap, sym, refl, arith, Vec, Global}
use Rattle.std.proofs.lemmas.List.{take_more, map-append}
use Rattle.db_pages.specs.Laid.{Laid, ended, with_row, with_rows}
use Rattle.db_pages.specs.Grown.{filled}

pub with_rows-append : (base first : ℕ) (laid : Laid) (rows more : List (List ℕ)) →
    with_rows base (with_rows base laid first rows) (first + length rows) more ≡ with_rows base laid first (rows ++ more)
with_rows-append base first laid [] more = let e : first + 0 ≡ first = omega arith in ap (λ n. with_rows base laid n more) e
with_rows-append base first laid (row ∷ rows) more =
    let next = with_row base laid first row in
    let to = if first % 8192 == 0 then ended base next else next in
    let e : first + suc (length rows) ≡ first + 1 + length rows = omega arith in
    ap (λ n. with_rows base (with_rows base to (first + 1) rows) n more) e ∙ with_rows-append base (first + 1) to rows more

abbrev pub bytes_of : List (Vec ℕ Global) → List (List ℕ)
bytes_of rows = map (λ (row : Vec ℕ Global). row.items) rows

-- the rows up to a place and the one there
pub rows-more : (rows : List (Vec ℕ Global)) (at : ℕ) (row : Vec ℕ Global) → at < length rows → row ≡ get_or rows at row →
    bytes_of (take (at + 1) rows) ≡ bytes_of (take at rows) ++ row.items ∷ []
rows-more rows at row within is =
    ap bytes_of (take_more rows at row within ∙ ap (λ r. take at rows ++ r ∷ []) (sym is)) ∙ map-append (λ (r : Vec ℕ Global). r.items) (take at rows) (row ∷ [])

-- one row more
pub filled-more : (base rowid : ℕ) (rows : List (List ℕ)) (row : List ℕ) → rowid ≡ 1 + length rows →
    (record { base = base; laid = with_rows base (filled base 1 rows).laid rowid (row ∷ []) }) ≡ filled base 1 (rows ++ row ∷ [])
filled-more base rowid rows row is =
    ap (λ n. record { base = base; laid = with_rows base (filled base 1 rows).laid n (row ∷ []) }) is
    ∙ ap (λ laid. record { base = base; laid = laid }) (with_rows-append base 1 (filled base 1 []).laid rows (row ∷ []))

pub length-bytes : (rows : List (Vec ℕ Global)) → length (bytes_of rows) ≡ length rows
length-bytes [] = refl
length-bytes (row ∷ rows) = omega (arith, length-bytes rows)
