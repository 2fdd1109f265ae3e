-- The cells of rows, and what is left of a line that is written cell by cell.
use Rattle.std.proofs.Common.{◌≡◌, ℕ, zero, suc, ◌+◌, ◌<◌, List, [], ◌∷◌, ◌++◌, Some, length, drop, get_or, sym, ◌∙◌, ap, append_assoc, codes, subst}
use Rattle.std.specs.Prelude.{All, flat_map, slice_get}
use Rattle.std.specs.Option.{option_and_then}
use Rattle.std.proofs.lemmas.List.Elements.{All-head, All-tail}
use Rattle.std.proofs.lemmas.Option.{slice_get-get_or}
use Rattle.column_store.specs.TableView.{cell_of}
use Rattle.value_types.specs.Datum.{Datum}
use Rattle.value_types.specs.Spelled.{IsSpelledCell}
use Rattle.report_text.specs.Lines.{cell_text, row_line}
use Rattle.report_text.proofs.Texts.{drop-get, join-flat_map}

-- a cell with the bar before it
abbrev pub piece : Datum → List ℕ
piece cell = 124 ∷ cell_text cell

-- the cells from a place on, and the line's end
abbrev pub cells_from : ℕ → List Datum → List ℕ
cells_from k cells = flat_map piece (drop k cells) ++ 10 ∷ []

pub line_begins : (cells : List Datum) → row_line cells ≡ codes "row" ++ cells_from 0 cells
line_begins cells = ap (λ xs. xs ++ 10 ∷ []) (join-flat_map 124 cell_text (codes "row") cells) ∙ append_assoc (codes "row") (flat_map piece cells) (10 ∷ [])

pub cells-next : (cells : List Datum) (k : ℕ) (cell : Datum) → slice_get cells k ≡ Some cell → cells_from k cells ≡ (124 ∷ []) ++ (cell_text cell ++ cells_from (k + 1) cells)
cells-next cells k cell at =
    ap (λ cs. flat_map piece cs ++ 10 ∷ []) (drop-get cells k cell at) ∙ ap (λ xs. 124 ∷ xs) (append_assoc (cell_text cell) (flat_map piece (drop (k + 1) cells)) (10 ∷ []))

-- the cell of a column in its row
pub cell_in : (rows : List (List Datum)) (column row : ℕ) (cell : Datum) → row < length rows → cell_of rows column row ≡ Some cell → slice_get (get_or rows row []) column ≡ Some cell
cell_in rows column row cell within at = ap (λ o. option_and_then (λ (cs : List Datum). slice_get cs column) o) (sym (slice_get-get_or rows row [] within)) ∙ at

pub spelled_in : (cells : List Datum) (k : ℕ) (cell : Datum) → All IsSpelledCell cells → slice_get cells k ≡ Some cell → IsSpelledCell cell
spelled_in [] k cell all at = absurd (let no : ⊥ = cc in no)
spelled_in (first ∷ cells) zero cell all at = let same : first ≡ cell = cc in subst IsSpelledCell same (All-head IsSpelledCell first cells all)
spelled_in (first ∷ cells) (suc k) cell all at = spelled_in cells k cell (All-tail IsSpelledCell first cells all) at
