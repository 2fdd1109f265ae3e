-- A page that is written holds its cells.
use Rattle.std.proofs.Common.{◌≡◌, ℕ, suc, ◌+◌, ◌-◌, ◌*◌, ◌/◌, ◌%◌, ◌≤◌, List, [], ◌∷◌, ◌++◌, length, take, drop, map, replicate, get_or, refl, sym, ◌∙◌, ap, arith, inl, append_assoc, length-append, All}
use Rattle.std.specs.Prelude.{⊤, Bool, true, false}
use Rattle.std.proofs.lemmas.List.{length-replicate, get_or-append-add}
use Rattle.std.proofs.Math.Seq.{drop-append_seam, take-append_seam}
use Rattle.std.specs.List.{range_with_len}
use Rattle.sqlite_format.specs.Bytes.{u16_at}
use Rattle.sqlite_format.specs.Cell.{cell_size, IsCell}
use Rattle.sqlite_format.specs.declared.kind.Kind.{Kind}
use Rattle.sqlite_format.specs.Kinds.{page_flag}
use Rattle.sqlite_format.specs.Page.{cell_from, cell_count, cell_offset, header_end, page_cells}
use Rattle.sqlite_format.proofs.CellLemmas.{cell-append}
use Rattle.std.proofs.lemmas.Bool.{cases_lt}
use Rattle.std.proofs.lemmas.Bool.Decides.{nat_tests}
use Rattle.std.proofs.lemmas.List.Sums.{sum_by-cons}
use Rattle.std.proofs.Common.{sum_by, ◌⊎◌, inr, ◌≢◌, zero, ◌<◌}
use Rattle.sqlite_format.specs.Page.{content_start, cell_end, IsPage, HasFreeChain, IsTiled, free_total, first_freeblock, fragments}
use Rattle.db_pages.specs.Page.{joined, places, content_at, leaf_page}
use Rattle.db_pages.specs.Laws.{leaf_kind, HoldsCells}

pub length-places : (at : ℕ) (cells : List (List ℕ)) → length (places at cells) ≡ 2 * length cells
length-places at [] = refl
length-places at (cell ∷ cells) = omega (arith, length-places (at + length cell) cells)

-- a leaf of cells that fit has the size of a page
pub length-leaf_page : (cells : List (List ℕ)) → 8 + 2 * length cells + length (joined cells) ≤ 4096 → length (leaf_page cells) ≡ 4096
length-leaf_page cells fits =
    let n = length cells in
    let at = content_at cells in
    let zeros : List ℕ = replicate (at - (8 + 2 * n)) 0 in
    omega (arith, length-append (places at cells) (zeros ++ joined cells), length-append zeros (joined cells), length-places at cells, length-replicate {A = ℕ} (at - (8 + 2 * n)) 0, fits)

behind : (pre xs : List ℕ) (j : ℕ) → get_or (pre ++ xs) (length pre + j) 0 ≡ get_or xs j 0
behind pre xs j = get_or-append-add pre xs j 0

-- two bytes behind others
two-at : (page pre more : List ℕ) (at k : ℕ) → page ≡ pre ++ (at / 256 ∷ at % 256 ∷ more) → length pre ≡ k → u16_at page k ≡ at
two-at page pre more at k is size =
    let first : get_or page k 0 ≡ at / 256 =
    ap (λ j. get_or page j 0) (let e : k ≡ length pre + 0 = omega (arith, size) in e) ∙ ap (λ p. get_or p (length pre + 0) 0) is ∙ behind pre (at / 256 ∷ at % 256 ∷ more) 0 in
    let second : get_or page (k + 1) 0 ≡ at % 256 =
    ap (λ j. get_or page j 0) (let e : k + 1 ≡ length pre + 1 = omega (arith, size) in e) ∙ ap (λ p. get_or p (length pre + 1) 0) is ∙ behind pre (at / 256 ∷ at % 256 ∷ more) 1 in
    omega (arith, first, second)

drop-low : (low xs page : List ℕ) (at : ℕ) → page ≡ low ++ xs → length low ≡ at → drop at page ≡ xs
drop-low low xs page at is size = ap (λ p. drop at p) is ∙ ap (λ j. drop j (low ++ xs)) (sym size) ∙ drop-append_seam low xs

-- a cell ends before each later one begins
steps : (cells : List (List ℕ)) (i j : ℕ) → i < j → j ≤ length cells →
    length (joined (take i cells)) + length (get_or cells i []) ≤ length (joined (take j cells))
steps [] i j lt most = absurd (let no : ⊥ = omega (arith, lt, most) in no)
steps (cell ∷ cells) i zero lt most = absurd (let no : ⊥ = omega (arith, lt) in no)
steps (cell ∷ cells) zero (suc j) lt most = omega (arith, length-append cell (joined (take j cells)))
steps (cell ∷ cells) (suc i) (suc j) lt most =
    omega (arith, length-append cell (joined (take i cells)), length-append cell (joined (take j cells)), steps cells i j (omega (arith, lt)) (omega (arith, most)))

within : (cells : List (List ℕ)) (j : ℕ) → length (joined (take j cells)) ≤ length (joined cells)
within [] zero = omega arith
within [] (suc j) = omega arith
within (cell ∷ cells) zero = omega arith
within (cell ∷ cells) (suc j) = omega (arith, length-append cell (joined (take j cells)), length-append cell (joined cells), within cells j)

joined-sum : (cells : List (List ℕ)) → sum_by length cells ≡ length (joined cells)
joined-sum [] = refl
joined-sum (cell ∷ cells) = sum_by-cons length cell cells ∙ omega (arith, joined-sum cells, length-append cell (joined cells))

apart-at : (cells : List (List ℕ)) (at i j ei ej oi oj : ℕ) → i < length cells → j < length cells → i ≢ j →
    oi ≡ at + length (joined (take i cells)) → oj ≡ at + length (joined (take j cells)) →
    ei ≡ oi + length (get_or cells i []) → ej ≡ oj + length (get_or cells j []) → (ei ≤ oj) ⊎ (ej ≤ oi)
apart-at cells at i j ei ej oi oj li lj other is-i is-j end-i end-j =
    elim (cases_lt i j) [
      | inl lt ↦ inl (omega (arith, is-i, is-j, end-i, steps cells i j lt (omega (arith, lj))))
      | inr ge ↦ inr (omega (arith, is-i, is-j, end-j, steps cells j i (omega (arith, ge, other)) (omega (arith, li))))
    ]

starts-at : (page : List ℕ) (at : ℕ) → u16_at page 5 ≡ at → 0 < at → content_start page 0 ≡ at
unfolding content_start
starts-at page at is some = grind (arith, nat_tests)

header-some : (leaf : Bool) → 8 ≤ header_end leaf 0
header-some true = omega arith
header-some false = omega arith

-- pages of a kind
module _ (kind : Kind) where
  -- the cells stand in a page from a place on, and their places from the k-th on
  abbrev AreAt : List ℕ → ℕ → ℕ → List (List ℕ) → Type 0
  AreAt page k at [] = ⊤
  AreAt page k at (cell ∷ cells) =
      (u16_at page (header_end kind.leaf 0 + 2 * k) ≡ at) × (drop at page ≡ cell ++ joined cells) × IsCell kind 4096 cell × AreAt page (k + 1) (at + length cell) cells

  are-at : (cells : List (List ℕ)) (page pre post low : List ℕ) (k at : ℕ) →
      page ≡ pre ++ (places at cells ++ post) → length pre ≡ header_end kind.leaf 0 + 2 * k → page ≡ low ++ joined cells → length low ≡ at →
      All (IsCell kind 4096) cells → AreAt page k at cells
  are-at [] page pre post low k at is size lies from all = tt
  are-at (cell ∷ cells) page pre post low k at is size lies from all =
      let high = at / 256 in
      let two = high ∷ at % 256 ∷ [] in
      let is′ : page ≡ (pre ++ two) ++ (places (at + length cell) cells ++ post) = is ∙ sym (append_assoc pre two (places (at + length cell) cells ++ post)) in
      let lies′ : page ≡ (low ++ cell) ++ joined cells = lies ∙ sym (append_assoc low cell (joined cells)) in (
        two-at page pre (places (at + length cell) cells ++ post) at (header_end kind.leaf 0 + 2 * k) is size,
        drop-low low (cell ++ joined cells) page at lies from,
        all 0 [] (omega arith),
        are-at cells page (pre ++ two) post (low ++ cell) (k + 1) (at + length cell) is′
            (length-append pre two ∙ omega (arith, size)) lies′ (length-append low cell ∙ omega (arith, from)) (λ j d lt. all (suc j) d (omega (arith, lt))),
      )

  -- the cell at a place
  one-cell : (page cell rest : List ℕ) (at : ℕ) → length page ≡ 4096 → drop at page ≡ cell ++ rest → IsCell kind 4096 cell → cell_from kind page at ≡ cell
  one-cell page cell rest at size lies whole =
      let n : cell_size kind 4096 (cell ++ rest) ≡ length cell = (cell-append kind 4096 cell rest (inl (omega (arith, whole)))).0 ∙ whole in
      ap (λ xs. take (cell_size kind (length page) xs) xs) lies
      ∙ ap (λ usable. take (cell_size kind usable (cell ++ rest)) (cell ++ rest)) size
      ∙ ap (λ j. take j (cell ++ rest)) n
      ∙ take-append_seam cell rest

  all-cells : (cells : List (List ℕ)) (page : List ℕ) (k at : ℕ) → length page ≡ 4096 → AreAt page k at cells →
      map (λ i. cell_from kind page (u16_at page (header_end kind.leaf 0 + 2 * i))) (range_with_len k (length cells)) ≡ cells
  all-cells [] page k at size found = refl
  all-cells (cell ∷ cells) page k at size found =
      let here : cell_from kind page (u16_at page (header_end kind.leaf 0 + 2 * k)) ≡ cell = ap (λ a. cell_from kind page a) found.0 ∙ one-cell page cell (joined cells) at size found.1 found.2 in
      ap (λ c. c ∷ map (λ i. cell_from kind page (u16_at page (header_end kind.leaf 0 + 2 * i))) (range_with_len (k + 1) (length cells))) here
      ∙ ap (λ cs. cell ∷ cs) (all-cells cells page (k + 1) (at + length cell) size found.3)

  -- where the i-th cell stands, and how long it is
  lies-at : (cells : List (List ℕ)) (page : List ℕ) (k at : ℕ) → length page ≡ 4096 → AreAt page k at cells → (i : ℕ) → i < length cells →
      (u16_at page (header_end kind.leaf 0 + 2 * (k + i)) ≡ at + length (joined (take i cells)))
      × (cell_size kind (length page) (drop (u16_at page (header_end kind.leaf 0 + 2 * (k + i))) page) ≡ length (get_or cells i []))
  lies-at [] page k at size found i lt = absurd (let no : ⊥ = omega (arith, lt) in no)
  lies-at (cell ∷ cells) page k at size found zero lt =
      let same : k + 0 ≡ k = omega arith in
      let here : u16_at page (header_end kind.leaf 0 + 2 * (k + 0)) ≡ at = ap (λ j. u16_at page (header_end kind.leaf 0 + 2 * j)) same ∙ found.0 in
      let n : cell_size kind 4096 (cell ++ joined cells) ≡ length cell = (cell-append kind 4096 cell (joined cells) (inl (omega (arith, found.2)))).0 ∙ found.2 in (
        here ∙ omega arith,
        ap (λ j. cell_size kind (length page) (drop j page)) here
            ∙ ap (λ xs. cell_size kind (length page) xs) found.1
            ∙ ap (λ usable. cell_size kind usable (cell ++ joined cells)) size
            ∙ n,
      )
  lies-at (cell ∷ cells) page k at size found (suc i) lt =
      let rest = lies-at cells page (k + 1) (at + length cell) size found.3 i (omega (arith, lt)) in
      let same : k + suc i ≡ k + 1 + i = omega arith in (
        ap (λ j. u16_at page (header_end kind.leaf 0 + 2 * j)) same ∙ rest.0 ∙ omega (arith, length-append cell (joined (take i cells))),
        ap (λ j. cell_size kind (length page) (drop (u16_at page (header_end kind.leaf 0 + 2 * j)) page)) same ∙ rest.1,
      )

  no-blocks : (page : List ℕ) → length page ≡ 4096 → first_freeblock page 0 ≡ 0 → HasFreeChain kind page 0
  no-blocks page size none = rw size (inl none)

  no-total : (page : List ℕ) → length page ≡ 4096 → first_freeblock page 0 ≡ 0 → free_total page (length page) (first_freeblock page 0) ≡ 0
  no-total page size none = rw (size, none) refl

  placed : (cells : List (List ℕ)) (page : List ℕ) (at : ℕ) → length page ≡ 4096 → AreAt page 0 at cells → (i : ℕ) → i < length cells →
      (cell_offset kind.leaf page 0 i ≡ at + length (joined (take i cells)))
      × (cell_size kind (length page) (drop (cell_offset kind.leaf page 0 i) page) ≡ length (get_or cells i []))
  unfolding cell_offset
  placed cells page at size found i lt =
      let lies = lies-at cells page 0 at size found i lt in
      let same : i ≡ 0 + i = omega arith in (
        ap (λ j. u16_at page (header_end kind.leaf 0 + 2 * j)) same ∙ lies.0,
        ap (λ j. cell_size kind (length page) (drop (u16_at page (header_end kind.leaf 0 + 2 * j)) page)) same ∙ lies.1,
      )

  page-sound : (cells : List (List ℕ)) (page : List ℕ) (at : ℕ) → length page ≡ 4096 → AreAt page 0 at cells → page_cells kind page 0 ≡ cells →
      get_or page 0 0 ≡ page_flag kind → cell_count page 0 ≡ length cells → content_start page 0 ≡ at → first_freeblock page 0 ≡ 0 → fragments page 0 ≡ 0 →
      header_end kind.leaf 0 + 2 * length cells ≤ at → at + length (joined cells) ≡ 4096 → IsPage kind page 0
  unfolding IsTiled
  page-sound cells page at size found holds flag count content none whole room total =
      let sums : sum_by length (page_cells kind page 0) ≡ length (joined cells) = ap (λ cs. sum_by length cs) holds ∙ joined-sum cells in
      record {
        usable = (omega (arith, size), omega (arith, size));
        flag = flag;
        pointers = omega (arith, count, content, room);
        inside = λ i lt. let lies = placed cells page at size found i (omega (arith, lt, count)) in (
          omega (arith, lies.0, content),
          omega (arith, lies.0, lies.1, size, total, steps cells i (length cells) (omega (arith, lt, count)) (omega arith), within cells (length cells)),
        );
        room = omega (arith, sums, content, size, total);
        apart = λ i j li lj other.
            let one = placed cells page at size found i (omega (arith, li, count)) in
            let two = placed cells page at size found j (omega (arith, lj, count)) in
            apart-at cells at i j (cell_end kind page 0 i) (cell_end kind page 0 j) (cell_offset kind.leaf page 0 i) (cell_offset kind.leaf page 0 j) (omega (arith, li, count)) (omega (arith, lj, count)) other one.0 two.0 (omega (arith, one.1)) (omega (arith, two.1));
        tiled = (
          no-blocks page size none,
          omega (arith, sums, content, size, total, whole, no-total page size none),
          omega (arith, whole),
        );
      }

  -- the first bytes of a page: its kind, no free block, how many cells there are, where the first begins, no fragment
  pub record HasHead (page : List ℕ) (count at : ℕ) : Type 0 where
    pub flag : get_or page 0 0 ≡ page_flag kind
    pub whole : first_freeblock page 0 ≡ 0
    pub cells : u16_at page 3 ≡ count
    pub begins : u16_at page 5 ≡ at
    pub none : fragments page 0 ≡ 0

  -- behind them the places of the cells, zeros, and the cells up to the page's end
  pub page-holds : (cells : List (List ℕ)) (page front : List ℕ) → All (IsCell kind 4096) cells → length front ≡ header_end kind.leaf 0 →
      header_end kind.leaf 0 + 2 * length cells + length (joined cells) ≤ 4096 →
      page ≡ front ++ (places (content_at cells) cells ++ (replicate (content_at cells - (header_end kind.leaf 0 + 2 * length cells)) 0 ++ joined cells)) →
      HasHead page (length cells) (content_at cells) → HoldsCells kind page cells
  unfolding page_cells cell_count cell_offset
  page-holds cells page front all head fits is has =
      let n = length cells in
      let at = content_at cells in
      let zeros : List ℕ = replicate (at - (header_end kind.leaf 0 + 2 * n)) 0 in
      let low : List ℕ = front ++ (places at cells ++ zeros) in
      let len-zeros : length zeros ≡ at - (header_end kind.leaf 0 + 2 * n) = length-replicate (at - (header_end kind.leaf 0 + 2 * n)) 0 in
      let len-low : length low ≡ at = omega (arith, head, length-append front (places at cells ++ zeros), length-append (places at cells) zeros, length-places at cells, len-zeros, fits) in
      let lies : page ≡ low ++ joined cells =
      is ∙ ap (λ xs. front ++ xs) (sym (append_assoc (places at cells) zeros (joined cells))) ∙ sym (append_assoc front (places at cells ++ zeros) (joined cells)) in
      let size : length page ≡ 4096 = ap length lies ∙ length-append low (joined cells) ∙ omega (arith, len-low, fits) in
      let start : length front ≡ header_end kind.leaf 0 + 2 * 0 = omega (arith, head) in
      let there : AreAt page 0 at cells = are-at cells page front (zeros ++ joined cells) low 0 at is start lies len-low all in
      let found = ap (λ c. map (λ i. cell_from kind page (u16_at page (header_end kind.leaf 0 + 2 * i))) (range_with_len 0 c)) has.cells
      ∙ all-cells cells page 0 at size there in
      record {
        size = size;
        found = found;
        sound = page-sound cells page at size there found has.flag has.cells (starts-at page at has.begins (omega (arith, fits, header-some kind.leaf)))
            has.whole has.none (omega (arith, fits)) (omega (arith, fits));
      }

pub leaf-holds : (cells : List (List ℕ)) → All (IsCell leaf_kind 4096) cells → 8 + 2 * length cells + length (joined cells) ≤ 4096 → HoldsCells leaf_kind (leaf_page cells) cells
leaf-holds cells all fits =
    let n = length cells in
    let at = content_at cells in
    let front = 13 ∷ 0 ∷ 0 ∷ n / 256 ∷ n % 256 ∷ at / 256 ∷ at % 256 ∷ 0 ∷ [] in
    page-holds leaf_kind cells (leaf_page cells) front all refl fits refl (record { flag = refl; whole = refl; cells = omega arith; begins = omega arith; none = refl })
