-- Columns that are seen by slices.
use Rattle.std.proofs.Common.{◌≡◌, ℕ, suc, ◌+◌, ◌<◌, ◌≤◌, Bool, true, false, List, [], ◌∷◌, ◌++◌, Some, None, length, map, take, drop, get_or, refl, sym, ap, ◌∙◌, subst, arith}
use Rattle.std.specs.Prelude.{All, if◌then◌else◌}
use Rattle.std.proofs.lemmas.List.{length-map, map-append, take_more, take_all}
use Rattle.std.proofs.lemmas.List.Elements.{All-nil, All-cons, All-head, All-tail, All-push}
use Rattle.value_types.specs.Datum.{Datum, null}
use Rattle.value_types.specs.declared.views.ColumnView.{ColumnView}
use Rattle.value_types.specs.declared.views.ColumnView.TheVariants as views
use Rattle.value_types.specs.Marked.{marked}
use Rattle.value_types.specs.Views.{view_cells, view_rows, HasRows}
use Rattle.column_store.specs.declared.column.Column.{Column}
use Rattle.column_store.specs.Nullable.{datum_by, options_of}
use Rattle.column_store.specs.ColumnCells.{cells_of}
use Rattle.column_store.specs.RowsOfColumns.{rows_of}
use Rattle.column_store.specs.IsFilled.{IsFilled}
use Rattle.column_store.proofs.Filled.{cells_at_least}
use Rattle.column_store.proofs.Options.{length-options}
use Rattle.column_store.proofs.Rows.{length-rows_of}

module _ {A : Type 0} (cell : A → Datum) where
  one : (is_null : Bool) (value : A) → (if is_null then null else cell value) ≡ datum_by cell (if is_null then None else Some value)
  one true value = refl
  one false value = refl

  -- marks and values are the cells
  pub marked_are : (nulls : List Bool) (values : List A) → marked cell nulls values ≡ map (datum_by cell) (options_of nulls values)
  marked_are nulls [] = refl
  marked_are [] (v ∷ values) = ap (λ cells. cell v ∷ cells) (marked_are [] values)
  marked_are (n ∷ nulls) (v ∷ values) = λ i. one n v i ∷ marked_are nulls values i

  module _ (nulls : List Bool) (values : List A) (ns : List Bool) (vs : List A) where
    pub cells_are : ns ≡ nulls → vs ≡ values → marked cell ns vs ≡ map (datum_by cell) (options_of nulls values)
    cells_are marks are = (λ i. marked cell (marks i) (are i)) ∙ marked_are nulls values

  -- as many values
  pub all_long : (nulls : List Bool) (values vs : List A) → vs ≡ values → length (map (datum_by cell) (options_of nulls values)) ≤ length vs
  all_long nulls values vs are =
      let long = length-map (options_of nulls values) (datum_by cell) in
      omega (arith, long, length-options nulls values, ap length are)

-- ---- the views of columns

-- one view more
pub view_more : (columns : List Column) (i : ℕ) (column : Column) (now more : List ColumnView) (view : ColumnView) → i < length columns → column ≡ get_or columns i column
    → map view_cells now ≡ map cells_of (take i columns) → view_cells view ≡ cells_of column → more ≡ now ++ view ∷ [] → map view_cells more ≡ map cells_of (take (i + 1) columns)
view_more columns i column now more view within at so_far same pushed =
    ap (map view_cells) pushed ∙ map-append view_cells now (view ∷ []) ∙ (λ j. so_far j ++ (same ∙ ap cells_of at) j ∷ []) ∙ sym (map-append cells_of (take i columns) (get_or columns i column ∷ []))
    ∙ ap (map cells_of) (sym (take_more columns i column within))

pub long_more : (now more : List ColumnView) (view : ColumnView) (cells : List Datum) → All (λ v. HasRows (length (view_cells v)) v) now → view_cells view ≡ cells → HasRows (length cells) view
    → more ≡ now ++ view ∷ [] → All (λ v. HasRows (length (view_cells v)) v) more
long_more now more view cells all same long pushed =
    subst (All (λ v. HasRows (length (view_cells v)) v)) (sym pushed)
    (All-push (λ v. HasRows (length (view_cells v)) v) now view all (subst (λ (n : ℕ). HasRows n view) (sym (ap length same)) long))

pub all_views : (columns : List Column) (n : ℕ) (now : List ColumnView) → length columns ≤ n → map view_cells now ≡ map cells_of (take n columns) → map view_cells now ≡ map cells_of columns
all_views columns n now past is = is ∙ ap (map cells_of) (take_all n columns past)

-- ---- the rows of a chunk

pub fewer : (n m : ℕ) (view : ColumnView) → n ≤ m → HasRows m view → HasRows n view
fewer n m (views.Boolean nulls column) less long = omega (arith, less, long)
fewer n m (views.Bigint column) less long = omega (arith, less, long)
fewer n m (views.Date nulls column) less long = omega (arith, less, long)
fewer n m (views.Time nulls column) less long = omega (arith, less, long)
fewer n m (views.Timestamp nulls column) less long = omega (arith, less, long)
fewer n m (views.Varchar nulls column) less long = omega (arith, less, long)

long_views : (n : ℕ) (columns : List Column) (now : List ColumnView) → map view_cells now ≡ map cells_of columns
    → ((number : ℕ) (other : Column) → number < length columns → n ≤ length (cells_of (get_or columns number other))) → All (λ v. HasRows (length (view_cells v)) v) now
    → All (HasRows n) now
long_views n columns [] same each long = All-nil (HasRows n)
long_views n [] (view ∷ now) same each long = absurd (let no : ⊥ = omega (arith, ap length same) in no)
long_views n (column ∷ columns) (view ∷ now) same each long =
    let cells : view_cells view ≡ cells_of column = ap (λ xs. get_or xs 0 []) same in
    let rest : map view_cells now ≡ map cells_of columns = ap (λ xs. drop 1 xs) same in
    let enough : n ≤ length (cells_of column) = each 0 column (omega arith) in
    let here : n ≤ length (view_cells view) = omega (arith, enough, ap length cells) in
    All-cons (HasRows n) view now (fewer n (length (view_cells view)) view here (All-head (λ v. HasRows (length (view_cells v)) v) view now long))
    (long_views n columns now rest (λ number other within. each (suc number) other (omega (arith, within))) (All-tail (λ v. HasRows (length (view_cells v)) v) view now long))

module _ (columns : List Column) (rows begun spare : ℕ) (filled : IsFilled columns rows begun spare) (now : List ColumnView) (same : map view_cells now ≡ map cells_of columns) where
  count_is : length (rows_of (map cells_of columns) rows) ≡ rows
  count_is = length-rows_of (map cells_of columns) rows

  pub rows_are : view_rows now (length (rows_of (map cells_of columns) rows)) ≡ rows_of (map cells_of columns) rows
  rows_are = (λ i. rows_of (same i) (count_is i))

  pub rows_long : All (λ v. HasRows (length (view_cells v)) v) now → All (HasRows (length (rows_of (map cells_of columns) rows))) now
  rows_long long = subst (λ (n : ℕ). All (HasRows n) now) (sym count_is) (long_views rows columns now same (cells_at_least filled) long)
