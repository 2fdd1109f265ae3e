-- The cells of a column, chunk by chunk.
use Rattle.std.proofs.Common.{◌≡◌, ℕ, zero, suc, ◌+◌, ◌<◌, ◌≤◌, List, [], ◌∷◌, ◌++◌, length, take, map, get_or, refl, sym, ap, subst, ◌∙◌, arith}
use Rattle.std.specs.Prelude.{All, flat_map}
use Rattle.std.specs.List.{range_with_len}
use Rattle.std.proofs.lemmas.List.{append-nil, get_or-map, get_or-take, length-map, length-take-le}
use Rattle.std.proofs.lemmas.List.Concat.{flat_map-append}
use Rattle.std.proofs.lemmas.List.Elements.{All-nil, All-cons, All-head, All-tail, All-append, All-map, All-weaker}
use Rattle.std.proofs.lemmas.List.FromFn.{fill_by_all}
use Rattle.std.proofs.lemmas.Simd.{map-map}
use Rattle.value_types.specs.Datum.{Datum, null, typed, text}
use Rattle.value_types.specs.declared.types.Value.TheVariants as values
use Rattle.value_types.specs.declared.views.ColumnView.{ColumnView}
use Rattle.value_types.specs.declared.views.ColumnView.TheVariants as views
use Rattle.value_types.specs.Packed.{numbers_in}
use Rattle.value_types.specs.Views.{row_at, view_cells, view_rows, HasRows}
use Rattle.value_types.proofs.MarkedSteps.{marked_long}
use Rattle.value_types.specs.Spelled.{IsSpelledCell}
use Rattle.csv_writer.specs.Writable.{IsWritableRow}
use Rattle.column_profile.specs.Profile.{cells_in}

view_long : (n : ℕ) (view : ColumnView) → HasRows n view → n ≤ length (view_cells view)
view_long n (views.Boolean nulls column) long = marked_long (λ b. typed (values.Bool b)) n nulls.now column.now long
view_long n (views.Bigint column) long = marked_long (λ z. typed (values.Int z)) n column.nulls.now (numbers_in column.values) long
view_long n (views.Date nulls column) long = marked_long (λ z. typed (values.Date z)) n nulls.now column.now long
view_long n (views.Time nulls column) long = marked_long (λ z. typed (values.Time z)) n nulls.now column.now long
view_long n (views.Timestamp nulls column) long = marked_long (λ z. typed (values.Stamp z)) n nulls.now column.now long
view_long n (views.Varchar nulls column) long = marked_long text n nulls.now column.now long

front_is : (n : ℕ) (view : ColumnView) → HasRows n view → take n (view_cells view) ≡ map (λ p. get_or (view_cells view) p null) (range_with_len 0 n)
front_is n view long =
    fill_by_all (λ p. get_or (view_cells view) p null) (take n (view_cells view)) n null (length-take-le n (view_cells view) (view_long n view long))
    (λ k below. get_or-take n (view_cells view) k null below)

cell_there : (views : List ColumnView) (k p : ℕ) (view : ColumnView) → k < length views → view ≡ get_or views k view
    → get_or (row_at (map view_cells views) p) k null ≡ get_or (view_cells view) p null
cell_there views k p view within is =
    get_or-map (λ cells. get_or cells p null) (map view_cells views) k [] null (let long = length-map views view_cells in omega (arith, within))
    ∙ ap (λ cells. get_or cells p null) (get_or-map view_cells views k view [] within) ∙ ap (λ v. get_or (view_cells v) p null) (sym is)

same_map : {X Y : Type 0} (f g : X → Y) → ((x : X) → f x ≡ g x) → (xs : List X) → map f xs ≡ map g xs
same_map f g same [] = refl
same_map f g same (x ∷ xs) = λ i. same x i ∷ same_map f g same xs i

-- the cells of a column of rows are the first ones of its view
pub cells_viewed : (views : List ColumnView) (k n : ℕ) (view : ColumnView) → k < length views → view ≡ get_or views k view → HasRows n view
    → take n (view_cells view) ≡ cells_in k (view_rows views n)
cells_viewed views k n view within is long =
    front_is n view long ∙ same_map (λ p. get_or (view_cells view) p null) (λ p. get_or (row_at (map view_cells views) p) k null) (λ p. sym (cell_there views k p view within is)) (range_with_len 0 n)
    ∙ sym (map-map (λ row. get_or row k null) (row_at (map view_cells views)) (range_with_len 0 n))

-- ---- chunks one after another

taken_more : {X : Type 0} (xs : List X) (k : ℕ) (x : X) → k < length xs → x ≡ get_or xs k x → take (suc k) xs ≡ take k xs ++ x ∷ []
taken_more [] k x within is = absurd (let no : ⊥ = omega arith in no)
taken_more (y ∷ xs) zero x within is = ap (λ z. z ∷ []) (sym is)
taken_more (y ∷ xs) (suc k) x within is = ap (λ rest. y ∷ rest) (taken_more xs k x (omega arith) is)

pub flat_next : {X R : Type 0} (rows : X → List R) (xs : List X) (k : ℕ) (x : X) → k < length xs → x ≡ get_or xs k x → flat_map rows (take (k + 1) xs) ≡ flat_map rows (take k xs) ++ rows x
flat_next rows xs k x within is =
    let one : k + 1 ≡ suc k = omega arith in
    ap (λ n. flat_map rows (take n xs)) one ∙ ap (flat_map rows) (taken_more xs k x within is) ∙ flat_map-append rows (take k xs) (x ∷ []) ∙ ap (λ last. flat_map rows (take k xs) ++ last) (append-nil (rows x))

-- one chunk more
module _ {X Y R : Type 0} (rows_x : X → List R) (rows_y : Y → List R) (xs : List X) (k : ℕ) (x : X) (ys more : List Y) (y : Y) where
  pub flat_more : k < length xs → x ≡ get_or xs k x → flat_map rows_y ys ≡ flat_map rows_x (take k xs) → rows_y y ≡ rows_x x → more ≡ ys ++ y ∷ []
      → flat_map rows_y more ≡ flat_map rows_x (take (k + 1) xs)
  flat_more within is so_far same told =
      ap (flat_map rows_y) told ∙ flat_map-append rows_y ys (y ∷ []) ∙ ap (λ last. flat_map rows_y ys ++ last) (append-nil (rows_y y)) ∙ (λ i. so_far i ++ same i)
      ∙ sym (flat_next rows_x xs k x within is)

pub All-more : {X : Type 0} (P : X → Type 0) (xs more : List X) (x : X) → more ≡ xs ++ x ∷ [] → All P xs → P x → All P more
All-more P xs more x told all here = subst (All P) (sym told) (All-append P xs (x ∷ []) all (All-cons P x [] here (All-nil P)))

-- ---- cells that can be printed

all_front : {X : Type 0} (P : X → Type 0) (xs ys : List X) → All P (xs ++ ys) → All P xs
all_front P [] ys all = All-nil P
all_front P (x ∷ xs) ys all = All-cons P x xs (All-head P x (xs ++ ys) all) (all_front P xs ys (All-tail P x (xs ++ ys) all))

all_behind : {X : Type 0} (P : X → Type 0) (xs ys : List X) → All P (xs ++ ys) → All P ys
all_behind P [] ys all = all
all_behind P (x ∷ xs) ys all = all_behind P xs ys (All-tail P x (xs ++ ys) all)

all_of_one : {X R : Type 0} (P : R → Type 0) (rows : X → List R) (xs : List X) (k : ℕ) (d : X) → k < length xs → All P (flat_map rows xs) → All P (rows (get_or xs k d))
all_of_one P rows [] k d within all = absurd (let no : ⊥ = omega (arith, within) in no)
all_of_one P rows (x ∷ xs) zero d within all = all_front P (rows x) (flat_map rows xs) all
all_of_one P rows (x ∷ xs) (suc k) d within all = all_of_one P rows xs k d (omega (arith, within)) (all_behind P (rows x) (flat_map rows xs) all)

spelled_at : (row : List Datum) (k : ℕ) → IsWritableRow row → IsSpelledCell (get_or row k null)
spelled_at [] k writable = tt
spelled_at (cell ∷ row) zero writable = All-head IsSpelledCell cell row writable
spelled_at (cell ∷ row) (suc k) writable = spelled_at row k (All-tail IsSpelledCell cell row writable)

-- the cells of a column of a chunk
pub cells_spelled : {X : Type 0} (rows : X → List (List Datum)) (xs : List X) (k column : ℕ) (x : X) → k < length xs → x ≡ get_or xs k x → All IsWritableRow (flat_map rows xs)
    → All IsSpelledCell (cells_in column (rows x))
cells_spelled rows xs k column x within is all =
    All-map IsSpelledCell (λ row. get_or row column null) (rows x)
    (All-weaker IsWritableRow (λ row. IsSpelledCell (get_or row column null)) (λ row. spelled_at row column) (rows x)
    (subst (λ y. All IsWritableRow (rows y)) (sym is) (all_of_one IsWritableRow rows xs k x within all)))
