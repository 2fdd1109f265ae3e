-- Rows of columns that stand side by side.
use Rattle.std.proofs.Common.{◌≡◌, ℕ, suc, ◌+◌, ◌-◌, ◌<◌, ◌≤◌, refl, sym, ap, ◌∙◌, arith, List, [], ◌∷◌, ◌++◌, length, get_or, take, map, Some, inl, inr}
use Rattle.std.specs.Prelude.{slice_get, All}
use Rattle.std.specs.Option.{option_and_then}
use Rattle.std.specs.List.{range_with_len}
use Rattle.std.proofs.lemmas.Bool.{cases_lt}
use Rattle.std.proofs.lemmas.List.{get_or-append-add, get_or-append_right, get_or-take, get_or-map, get_or_append_left, length-append, length-map, take_all, take_at}
use Rattle.std.proofs.lemmas.List.FromFn.{length-map-range_with_len, get_or-map-range_with_len, take-map-range_with_len, map-range_with_len_more, fill_by_all}
use Rattle.std.proofs.lemmas.Option.{slice_get-get_or, get_or_from_slice_get}
use Rattle.value_types.specs.Datum.{Datum, null}
use Rattle.column_store.specs.declared.column.Column.{Column}
use Rattle.column_store.specs.ColumnCells.{cells_of}
use Rattle.value_types.specs.Views.{row_at}
use Rattle.column_store.specs.RowsOfColumns.{rows_of}
use Rattle.column_store.specs.TableView.{cell_of}

pub length-rows_of : (columns : List (List Datum)) (count : ℕ) → length (rows_of columns count) ≡ count
length-rows_of columns count = length-map-range_with_len (row_at columns) 0 count

pub get_or-rows_of : (columns : List (List Datum)) (count row : ℕ) (other : List Datum) → row < count → get_or (rows_of columns count) row other ≡ row_at columns row
get_or-rows_of columns count row other below = get_or-map-range_with_len (row_at columns) 0 count row row other below (omega arith)

pub rows_of-more : (columns : List (List Datum)) (count : ℕ) → rows_of columns (count + 1) ≡ rows_of columns count ++ row_at columns count ∷ []
rows_of-more columns count = map-range_with_len_more (row_at columns) 0 count count (omega arith)

pub rows_of-fewer : (columns : List (List Datum)) (count fewer : ℕ) → fewer ≤ count → rows_of columns fewer ≡ take fewer (rows_of columns count)
rows_of-fewer columns count fewer h = sym (take-map-range_with_len (row_at columns) 0 count fewer h)

map_range_same : (f g : ℕ → List Datum) (count : ℕ) → ((place : ℕ) → place < count → f place ≡ g place) → map f (range_with_len 0 count) ≡ map g (range_with_len 0 count)
map_range_same f g count same = fill_by_all g (map f (range_with_len 0 count)) count [] (length-map-range_with_len f 0 count)
    (λ place below. get_or-map-range_with_len f 0 count place place [] below (omega arith) ∙ same place below)

-- columns with the same first cells
abbrev pub SameFronts : ℕ → List Column → List Column → Type 0
SameFronts count xs ys = (number : ℕ) (other : Column) → number < length xs → take count (cells_of (get_or ys number other)) ≡ take count (cells_of (get_or xs number other))

row_same : (xs ys : List Column) (count place : ℕ) → length ys ≡ length xs → place < count → SameFronts count xs ys → row_at (map cells_of ys) place ≡ row_at (map cells_of xs) place
row_same [] [] count place same below fronts = refl
row_same [] (y ∷ ys) count place same below fronts = absurd (let no : ⊥ = omega (arith, same) in no)
row_same (x ∷ xs) [] count place same below fronts = absurd (let no : ⊥ = omega (arith, same) in no)
row_same (x ∷ xs) (y ∷ ys) count place same below fronts =
    let head : get_or (cells_of y) place null ≡ get_or (cells_of x) place null =
    sym (get_or-take count (cells_of y) place null below) ∙ ap (λ cells. get_or cells place null) (fronts 0 x (omega arith)) ∙ get_or-take count (cells_of x) place null below in
    λ i. head i ∷ row_same xs ys count place (omega (arith, same)) below (λ number other within. fronts (suc number) other (omega (arith, within))) i

pub rows_same : (xs ys : List Column) (count : ℕ) → length ys ≡ length xs → SameFronts count xs ys → rows_of (map cells_of ys) count ≡ rows_of (map cells_of xs) count
rows_same xs ys count same fronts = map_range_same (row_at (map cells_of ys)) (row_at (map cells_of xs)) count (λ place below. row_same xs ys count place same below fronts)

pub maps_same : {B : Type 0} (f : Column → B) (xs ys : List Column) → length ys ≡ length xs → ((number : ℕ) (other : Column) → number < length xs → f (get_or ys number other) ≡ f (get_or xs number other)) → map f ys ≡ map f xs
maps_same f [] [] same each = refl
maps_same f [] (y ∷ ys) same each = absurd (let no : ⊥ = omega (arith, same) in no)
maps_same f (x ∷ xs) [] same each = absurd (let no : ⊥ = omega (arith, same) in no)
maps_same f (x ∷ xs) (y ∷ ys) same each =
    λ i. each 0 x (omega arith) i ∷ maps_same f xs ys (omega (arith, same)) (λ number other within. each (suc number) other (omega (arith, within))) i

-- the cell of a column and a row
pub cell_of_columns : (columns : List Column) (count number row : ℕ) (column : Column) (cell : Datum) → number < length columns → row < count → column ≡ get_or columns number column →
    slice_get (cells_of column) row ≡ Some cell → cell_of (rows_of (map cells_of columns) count) number row ≡ Some cell
cell_of_columns columns count number row column cell inside below is there =
    let rows : List (List Datum) = rows_of (map cells_of columns) count in
    let line : List Datum = row_at (map cells_of columns) row in
    let whole : slice_get rows row ≡ Some line = slice_get-get_or rows row [] (omega (arith, length-rows_of (map cells_of columns) count)) ∙ ap Some (get_or-rows_of (map cells_of columns) count row [] below) in
    let there_is : number < length line = omega (arith, length-map (map cells_of columns) (λ (cells : List Datum). get_or cells row null), length-map columns cells_of) in
    let read : get_or line number cell ≡ cell =
    get_or-map (λ (cells : List Datum). get_or cells row null) (map cells_of columns) number (cells_of column) cell (omega (arith, length-map columns cells_of))
    ∙ ap (λ cells. get_or cells row null) (get_or-map cells_of columns number column (cells_of column) inside ∙ ap cells_of (sym is))
    ∙ get_or_from_slice_get (cells_of column) row cell null there in
    ap (λ o. option_and_then (λ cells. slice_get cells number) o) whole ∙ slice_get-get_or line number cell there_is ∙ ap Some read

row_behind : (xs os ys : List Column) (rows place : ℕ) → length ys ≡ length xs → length xs ≡ length os → All (λ column. length (cells_of column) ≡ rows) xs →
    ((number : ℕ) (other : Column) → number < length xs → cells_of (get_or ys number other) ≡ cells_of (get_or xs number other) ++ cells_of (get_or os number other)) →
    row_at (map cells_of ys) (rows + place) ≡ row_at (map cells_of os) place
row_behind [] [] [] rows place same twins full each = refl
row_behind [] [] (y ∷ ys) rows place same twins full each = absurd (let no : ⊥ = omega (arith, same) in no)
row_behind [] (o ∷ os) ys rows place same twins full each = absurd (let no : ⊥ = omega (arith, twins) in no)
row_behind (x ∷ xs) [] ys rows place same twins full each = absurd (let no : ⊥ = omega (arith, twins) in no)
row_behind (x ∷ xs) (o ∷ os) [] rows place same twins full each = absurd (let no : ⊥ = omega (arith, same) in no)
row_behind (x ∷ xs) (o ∷ os) (y ∷ ys) rows place same twins full each =
    let head : get_or (cells_of y) (rows + place) null ≡ get_or (cells_of o) place null =
    (λ i. get_or (each 0 x (omega arith) i) (sym (full 0 x (omega arith)) i + place) null) ∙ get_or-append-add (cells_of x) (cells_of o) place null in
    λ i. head i ∷ row_behind xs os ys rows place (omega (arith, same)) (omega (arith, twins)) (λ number other inside. full (suc number) other (omega (arith, inside))) (λ number other inside. each (suc number) other (omega (arith, inside))) i

-- the rows of columns that stand one behind another
pub joined_rows : (xs os ys : List Column) (rows more : ℕ) → All (λ column. length (cells_of column) ≡ rows) xs → length xs ≡ length os → length ys ≡ length xs →
    ((number : ℕ) (other : Column) → number < length xs → cells_of (get_or ys number other) ≡ cells_of (get_or xs number other) ++ cells_of (get_or os number other)) →
    rows_of (map cells_of ys) (rows + more) ≡ rows_of (map cells_of xs) rows ++ rows_of (map cells_of os) more
joined_rows xs os ys rows more full twins same each =
    let front : List (List Datum) = rows_of (map cells_of xs) rows in
    let behind : List (List Datum) = rows_of (map cells_of os) more in
    let first : length front ≡ rows = length-rows_of (map cells_of xs) rows in
    let second : length behind ≡ more = length-rows_of (map cells_of os) more in
    let fronts : SameFronts rows xs ys = λ number other inside.
    ap (take rows) (each number other inside) ∙ take_at (cells_of (get_or xs number other)) (cells_of (get_or os number other)) rows (full number other inside)
    ∙ sym (take_all rows (cells_of (get_or xs number other)) (omega (arith, full number other inside))) in
    sym (fill_by_all (row_at (map cells_of ys)) (front ++ behind) (rows + more) [] (length-append front behind ∙ omega arith)
    (λ place below. elim (cases_lt place rows) [
      | inl low ↦ get_or_append_left front behind [] place (omega arith) ∙ get_or-rows_of (map cells_of xs) rows place [] low ∙ sym (row_same xs ys rows place same low fronts)
      | inr high ↦
          let at : rows + (place - rows) ≡ place = omega arith in
          get_or-append_right front behind rows place [] first high ∙ get_or-rows_of (map cells_of os) more (place - rows) [] (omega arith)
          ∙ sym (row_behind xs os ys rows (place - rows) same twins full each) ∙ ap (row_at (map cells_of ys)) at
    ]))
