-- Cells one behind another.
use Rattle.std.proofs.Common.{◌≡◌, ℕ, ◌+◌, ◌-◌, ◌*◌, ◌/◌, ◌%◌, ◌≤◌, ◌==◌, false, List, [], ◌∷◌, ◌++◌, length, take, drop, replicate, refl, sym, ◌∙◌, ap, arith, append-nil, append_assoc, length-append, length-drop, length-take-le, take-append-drop}
use Rattle.std.proofs.lemmas.List.{take_all, take-append-le, drop-append-le}
use Rattle.std.proofs.lemmas.Bool.Decides.{nat_tests}
use Rattle.db_pages.specs.Page.{joined, places}
use Rattle.db_pages.specs.Cut.{cut, packed, page_head, starts, total, Fits}
use Rattle.csv_source.specs.Lists.{is_empty}

none : (xs : List ℕ) → 0 ≡ length xs → [] ≡ xs
none [] h = refl
none (x ∷ xs) h = absurd (let no : ⊥ = omega (arith, h) in no)

pub joined-cut : (sizes bytes : List ℕ) → total sizes ≡ length bytes → joined (cut sizes bytes) ≡ bytes
joined-cut [] bytes h = none bytes h
joined-cut (size ∷ sizes) bytes h =
    ap (λ xs. take size bytes ++ xs) (joined-cut sizes (drop size bytes) (omega (arith, h, length-drop size bytes))) ∙ take-append-drop size bytes

pub length-cut : (sizes bytes : List ℕ) → length (cut sizes bytes) ≡ length sizes
length-cut [] bytes = refl
length-cut (size ∷ sizes) bytes = omega (arith, length-cut sizes (drop size bytes))

pub places-cut : (at : ℕ) (sizes bytes : List ℕ) → total sizes ≡ length bytes → places at (cut sizes bytes) ≡ starts at sizes
places-cut at [] bytes h = refl
places-cut at (size ∷ sizes) bytes h =
    let first : length (take size bytes) ≡ size = omega (arith, length-take-le size bytes (omega (arith, h))) in
    ap (λ n. at / 256 ∷ at % 256 ∷ places (at + n) (cut sizes (drop size bytes))) first
    ∙ ap (λ xs. at / 256 ∷ at % 256 ∷ xs) (places-cut (at + size) sizes (drop size bytes) (omega (arith, h, length-drop size bytes)))

-- a page's cells by their sizes
pub packed_cut : (head : ℕ) (sizes bytes : List ℕ) → total sizes ≡ length bytes →
    packed head (cut sizes bytes) ≡ starts (4096 - length bytes) sizes ++ (replicate (4096 - length bytes - (head + 2 * length sizes)) 0 ++ bytes)
packed_cut head sizes bytes h =
    let whole = joined-cut sizes bytes h in
    let count = length-cut sizes bytes in
    ap (λ xs. places (4096 - length xs) (cut sizes bytes) ++ (replicate (4096 - length xs - (head + 2 * length (cut sizes bytes))) 0 ++ xs)) whole
    ∙ ap (λ n. places (4096 - length bytes) (cut sizes bytes) ++ (replicate (4096 - length bytes - (head + 2 * n)) 0 ++ bytes)) count
    ∙ ap (λ xs. xs ++ (replicate (4096 - length bytes - (head + 2 * length sizes)) 0 ++ bytes)) (places-cut (4096 - length bytes) sizes bytes h)

-- one more cell behind the others
pub cut_more : (sizes bytes cell : List ℕ) → total sizes ≡ length bytes → cut (sizes ++ length cell ∷ []) (bytes ++ cell) ≡ cut sizes bytes ++ cell ∷ []
cut_more [] bytes cell h =
    ap (λ xs. take (length cell) (xs ++ cell) ∷ []) (sym (none bytes h)) ∙ ap (λ xs. xs ∷ []) (take_all (length cell) cell (omega arith))
cut_more (size ∷ sizes) bytes cell h =
    let within : size ≤ length bytes = omega (arith, h) in
    ap (λ xs. xs ∷ cut (sizes ++ length cell ∷ []) (drop size (bytes ++ cell))) (take-append-le size bytes cell within)
    ∙ ap (λ xs. take size bytes ∷ cut (sizes ++ length cell ∷ []) xs) (drop-append-le size bytes cell within)
    ∙ ap (λ xs. take size bytes ∷ xs) (cut_more sizes (drop size bytes) cell (omega (arith, h, length-drop size bytes)))

pub total_more : (sizes : List ℕ) (size : ℕ) → total (sizes ++ size ∷ []) ≡ total sizes + size
total_more [] size = omega arith
total_more (first ∷ sizes) size = omega (arith, total_more sizes size)

-- cells that fit, as their sizes and bytes tell
pub measured : (sizes bytes : List ℕ) (cells : List (List ℕ)) → cut sizes bytes ≡ cells → Fits sizes bytes →
    (length sizes ≡ length cells) × (length bytes ≡ length (joined cells)) × (8 + 2 * length cells + length (joined cells) ≤ 4096)
measured sizes bytes cells is fits =
    let count : length sizes ≡ length cells = sym (length-cut sizes bytes) ∙ ap length is in
    let size : length bytes ≡ length (joined cells) = ap length (sym (joined-cut sizes bytes fits.whole) ∙ ap joined is) in
    (count, size, omega (arith, count, size, fits.room))

pub empty_cut : (sizes bytes : List ℕ) (cells : List (List ℕ)) → cut sizes bytes ≡ cells → (length sizes == 0) ≡ is_empty cells
empty_cut [] bytes cells is = ap is_empty is
empty_cut (size ∷ sizes) bytes cells is = let some : is_empty cells ≡ false = sym (ap is_empty is) in grind (arith, nat_tests)

pub fits_more : (sizes bytes : List ℕ) (cells : List (List ℕ)) (cell : List ℕ) → cut sizes bytes ≡ cells → Fits sizes bytes →
    8 + 2 * (length cells + 1) + length (joined cells) + length cell ≤ 4096 → Fits (sizes ++ length cell ∷ []) (bytes ++ cell)
fits_more sizes bytes cells cell is fits room =
    let m = measured sizes bytes cells is fits in
    record {
      whole = omega (arith, total_more sizes (length cell), length-append bytes cell, fits.whole);
      room = omega (arith, length-append sizes (length cell ∷ []), length-append bytes cell, m.0, m.1, room);
    }

-- the head of a page of cells, by their sizes
pub head_cut : (kind : ℕ) (sizes bytes : List ℕ) (cells : List (List ℕ)) → cut sizes bytes ≡ cells → Fits sizes bytes →
    page_head kind (length sizes) (length bytes) ≡ page_head kind (length cells) (length (joined cells))
head_cut kind sizes bytes cells is fits =
    let m = measured sizes bytes cells is fits in
    ap (λ n. page_head kind n (length bytes)) m.0 ∙ ap (λ n. page_head kind (length cells) n) m.1

-- the bytes and sizes of cells, one of them appended
pub cells_more : (sizes bytes sizes′ bytes′ : List ℕ) (cells : List (List ℕ)) (cell : List ℕ) (size : ℕ) → cut sizes bytes ≡ cells → Fits sizes bytes →
    size ≡ length cell → sizes′ ≡ sizes ++ size ∷ [] → bytes′ ≡ bytes ++ cell → cut sizes′ bytes′ ≡ cells ++ cell ∷ []
cells_more sizes bytes sizes′ bytes′ cells cell size is fits one two three =
    ap (λ xs. cut xs bytes′) two ∙ ap (λ n. cut (sizes ++ n ∷ []) bytes′) one ∙ ap (λ xs. cut (sizes ++ length cell ∷ []) xs) three
    ∙ cut_more sizes bytes cell fits.whole ∙ ap (λ xs. xs ++ cell ∷ []) is

pub fits_with : (sizes bytes sizes′ bytes′ : List ℕ) (cells : List (List ℕ)) (cell : List ℕ) (size : ℕ) → cut sizes bytes ≡ cells → Fits sizes bytes →
    size ≡ length cell → sizes′ ≡ sizes ++ size ∷ [] → bytes′ ≡ bytes ++ cell → 8 + 2 * (length cells + 1) + length (joined cells) + length cell ≤ 4096 → Fits sizes′ bytes′
fits_with sizes bytes sizes′ bytes′ cells cell size is fits one two three room =
    let more = fits_more sizes bytes cells cell is fits room in
    record {
      whole = ap total two ∙ ap (λ n. total (sizes ++ n ∷ [])) one ∙ more.whole ∙ ap length (sym three);
      room = omega (arith, ap length two, ap length three, length-append sizes (size ∷ []), length-append sizes (length cell ∷ []), more.room);
    }

pub joined_more : (cells : List (List ℕ)) (cell : List ℕ) → joined (cells ++ cell ∷ []) ≡ joined cells ++ cell
joined_more [] cell = append-nil cell
joined_more (first ∷ cells) cell = ap (λ xs. first ++ xs) (joined_more cells cell) ∙ sym (append_assoc first (joined cells) cell)
