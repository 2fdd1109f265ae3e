-- Rows of columns, taken in column by column.
use Rattle.std.proofs.Common.{◌≡◌, ◌≢◌, Bor, ℕ, zero, suc, ◌+◌, ◌*◌, ◌≤◌, Bool, true, false, List, [], ◌∷◌, Option, None, length, take, map, get_or, refl, sym, ap, ◌∙◌, arith}
use Rattle.std.specs.Prelude.{All, count_by, sum_by, if◌then◌else◌}
use Rattle.std.specs.List.{fold, range_with_len}
use Rattle.std.proofs.lemmas.List.{get_or-take, length-take, length-take-le}
use Rattle.std.proofs.lemmas.List.Elements.{All-head, All-tail, All-weaker}
use Rattle.std.proofs.lemmas.List.FromFn.{fill_by_all}
use Rattle.std.proofs.lemmas.List.Sums.{sum_by-cons, count_by-le-length}
use Rattle.value_types.specs.Datum.{Datum, null, typed, text}
use Rattle.value_types.specs.declared.types.Value.TheVariants as values
use Rattle.value_types.specs.declared.bigint_view.BigintView.{BigintView}
use Rattle.value_types.specs.declared.views.ColumnView.{ColumnView}
use Rattle.value_types.specs.declared.views.ColumnView.TheVariants as views
use Rattle.value_types.specs.Extent.{extent_with}
use Rattle.value_types.specs.Marked.{marked}
use Rattle.value_types.specs.Packed.{numbers_in}
use Rattle.value_types.specs.Views.{row_at, view_cells, view_rows, nulls_in, HasRows}
use Rattle.value_types.specs.declared.extent.Extent.{Extent}
use Rattle.column_taps.specs.declared.width.Width.{Width}
use Rattle.column_taps.specs.Seen.{counted, spanned, measured, by_column, width_with, is_filled}
use Rattle.column_taps.specs.Shown.{one_row_more, shown_rows}
use Rattle.value_types.proofs.MarkedSteps.{marked_long}
use Rattle.column_taps.proofs.ShownSteps.{many}

-- ---- the cells of a column

no_marks : (n : ℕ) → count_by (λ (mark : Bool). mark) (take n []) ≡ 0
no_marks zero = refl
no_marks (suc n) = refl

module _ {A : Type 0} (cell : A → Datum) where
  -- cells that change nothing
  pub fold_marked : {S : Type 0} (add : S → Datum → S) (s : S) (n : ℕ) (nulls : List Bool) (values : List A) → add s null ≡ s → ((v : A) → add s (cell v) ≡ s)
      → fold add s (take n (marked cell nulls values)) ≡ s
  fold_marked add s zero nulls values none each = refl
  fold_marked add s (suc n) nulls [] none each = refl
  fold_marked add s (suc n) [] (v ∷ values) none each = ap (λ t. fold add t (take n (marked cell [] values))) (each v) ∙ fold_marked add s n [] values none each
  fold_marked add s (suc n) (true ∷ nulls) (v ∷ values) none each = ap (λ t. fold add t (take n (marked cell nulls values))) none ∙ fold_marked add s n nulls values none each
  fold_marked add s (suc n) (false ∷ nulls) (v ∷ values) none each = ap (λ t. fold add t (take n (marked cell nulls values))) (each v) ∙ fold_marked add s n nulls values none each

  -- a cell is filled, and one mark fewer is set
  count_marked : (n : ℕ) (nulls : List Bool) (values : List A) → ((v : A) → is_filled (cell v) ≡ true) → n ≤ length values
      → count_by is_filled (take n (marked cell nulls values)) + count_by (λ mark. mark) (take n nulls) ≡ n
  count_marked zero nulls values filled all = refl
  count_marked (suc n) nulls [] filled all = absurd (let no : ⊥ = omega (arith, all) in no)
  count_marked (suc n) [] (v ∷ values) filled all =
      let rest = count_marked n [] values filled (omega (arith, all)) in
      let none : count_by (λ mark. mark) (take n []) ≡ 0 = no_marks n in
      let cells = sum_by-cons (λ d. if is_filled d then 1 else 0) (cell v) (take n (marked cell [] values)) in
      let one : ◌≡◌ {A = ℕ} (if is_filled (cell v) then 1 else 0) 1 = ap (λ b. if b then 1 else 0) (filled v) in
      omega (arith, rest, none, cells, one)
  count_marked (suc n) (true ∷ nulls) (v ∷ values) filled all =
      let rest = count_marked n nulls values filled (omega (arith, all)) in
      let marks = sum_by-cons (λ (b : Bool). if b then 1 else 0) true (take n nulls) in
      let cells = sum_by-cons (λ d. if is_filled d then 1 else 0) null (take n (marked cell nulls values)) in
      omega (arith, rest, marks, cells)
  count_marked (suc n) (false ∷ nulls) (v ∷ values) filled all =
      let rest = count_marked n nulls values filled (omega (arith, all)) in
      let marks = sum_by-cons (λ (b : Bool). if b then 1 else 0) false (take n nulls) in
      let cells = sum_by-cons (λ d. if is_filled d then 1 else 0) (cell v) (take n (marked cell nulls values)) in
      let one : ◌≡◌ {A = ℕ} (if is_filled (cell v) then 1 else 0) 1 = ap (λ b. if b then 1 else 0) (filled v) in
      omega (arith, rest, marks, cells, one)

view_long : (n : ℕ) (view : ColumnView) → HasRows n view → n ≤ length (view_cells view)
view_long n (views.Boolean nulls column) long = marked_long (λ b. typed (values.Bool b)) n nulls.now column.now long
view_long n (views.Bigint column) long = marked_long (λ z. typed (values.Int z)) n column.nulls.now (numbers_in column.values) long
view_long n (views.Date nulls column) long = marked_long (λ z. typed (values.Date z)) n nulls.now column.now long
view_long n (views.Time nulls column) long = marked_long (λ z. typed (values.Time z)) n nulls.now column.now long
view_long n (views.Timestamp nulls column) long = marked_long (λ z. typed (values.Stamp z)) n nulls.now column.now long
view_long n (views.Varchar nulls column) long = marked_long text n nulls.now column.now long

pub filled_by_marks : (n : ℕ) (view : ColumnView) → HasRows n view → count_by is_filled (take n (view_cells view)) + count_by (λ mark. mark) (take n (nulls_in view)) ≡ n
filled_by_marks n (views.Boolean nulls column) long = count_marked (λ b. typed (values.Bool b)) n nulls.now column.now (λ b. refl) long
filled_by_marks n (views.Bigint column) long = count_marked (λ z. typed (values.Int z)) n column.nulls.now (numbers_in column.values) (λ z. refl) long
filled_by_marks n (views.Date nulls column) long = count_marked (λ z. typed (values.Date z)) n nulls.now column.now (λ z. refl) long
filled_by_marks n (views.Time nulls column) long = count_marked (λ z. typed (values.Time z)) n nulls.now column.now (λ z. refl) long
filled_by_marks n (views.Timestamp nulls column) long = count_marked (λ z. typed (values.Stamp z)) n nulls.now column.now (λ z. refl) long
filled_by_marks n (views.Varchar nulls column) long = count_marked text n nulls.now column.now (λ t. refl) long

-- columns that have none
not_a_number : {A : Type 0} (cell : A → Datum) (extent : Option Extent) → ((v : A) → extent_with extent (cell v) ≡ extent) → (n : ℕ) (nulls : List Bool) (values : List A)
    → extent ≡ fold extent_with extent (take n (marked cell nulls values))
not_a_number cell extent none n nulls values = sym (fold_marked cell extent_with extent n nulls values refl none)

pub no_numbers : (extent : Option Extent) (n : ℕ) (view : ColumnView) → ((column : BigintView) → view ≢ views.Bigint column) → extent ≡ fold extent_with extent (take n (view_cells view))
no_numbers extent n (views.Boolean nulls column) no_bigint = not_a_number (λ b. typed (values.Bool b)) extent (λ b. refl) n nulls.now column.now
no_numbers extent n (views.Bigint column) no_bigint = absurd (no_bigint column refl)
no_numbers extent n (views.Date nulls column) no_bigint = not_a_number (λ z. typed (values.Date z)) extent (λ z. refl) n nulls.now column.now
no_numbers extent n (views.Time nulls column) no_bigint = not_a_number (λ z. typed (values.Time z)) extent (λ z. refl) n nulls.now column.now
no_numbers extent n (views.Timestamp nulls column) no_bigint = not_a_number (λ z. typed (values.Stamp z)) extent (λ z. refl) n nulls.now column.now
no_numbers extent n (views.Varchar nulls column) no_bigint = not_a_number text extent (λ t. refl) n nulls.now column.now

not_a_text : {A : Type 0} (cell : A → Datum) (width : Option Width) → ((v : A) → width_with width (cell v) ≡ width) → (n : ℕ) (nulls : List Bool) (values : List A)
    → width ≡ fold width_with width (take n (marked cell nulls values))
not_a_text cell width none n nulls values = sym (fold_marked cell width_with width n nulls values refl none)

pub no_texts : (width : Option Width) (n : ℕ) (view : ColumnView) → ((nulls : Bor (List Bool)) (texts : Bor (List (List ℕ))) → view ≢ views.Varchar nulls texts) → width ≡ fold width_with width (take n (view_cells view))
no_texts width n (views.Boolean nulls column) no_varchar = not_a_text (λ b. typed (values.Bool b)) width (λ b. refl) n nulls.now column.now
no_texts width n (views.Bigint column) no_varchar = not_a_text (λ z. typed (values.Int z)) width (λ z. refl) n column.nulls.now (numbers_in column.values)
no_texts width n (views.Date nulls column) no_varchar = not_a_text (λ z. typed (values.Date z)) width (λ z. refl) n nulls.now column.now
no_texts width n (views.Time nulls column) no_varchar = not_a_text (λ z. typed (values.Time z)) width (λ z. refl) n nulls.now column.now
no_texts width n (views.Timestamp nulls column) no_varchar = not_a_text (λ z. typed (values.Stamp z)) width (λ z. refl) n nulls.now column.now
no_texts width n (views.Varchar nulls column) no_varchar = absurd (no_varchar nulls column refl)

-- the cell of each row
abbrev picked : List Datum → List ℕ → List Datum
picked cells places = map (λ q. get_or cells q null) places

pub front_is : (n : ℕ) (view : ColumnView) → HasRows n view → take n (view_cells view) ≡ picked (view_cells view) (range_with_len 0 n)
front_is n view long =
    fill_by_all (λ q. get_or (view_cells view) q null) (take n (view_cells view)) n null (length-take-le n (view_cells view) (view_long n view long))
    (λ k below. get_or-take n (view_cells view) k null below)

-- ---- what is known of each column

module _ {S : Type 0} (add : Option S → Datum → Option S) where
  abbrev with_places : List ℕ → Option S → ColumnView → Option S
  with_places places k view = fold add k (picked (view_cells view) places)

  no_columns : (known : List (Option S)) (places : List ℕ) → fold (by_column add) known (map (row_at []) places) ≡ known
  no_columns known [] = refl
  no_columns known (p ∷ places) = no_columns known places

  column_and_others : (k : Option S) (known : List (Option S)) (cells : List Datum) (others : List (List Datum)) (places : List ℕ)
      → fold (by_column add) (k ∷ known) (map (row_at (cells ∷ others)) places) ≡ fold add k (picked cells places) ∷ fold (by_column add) known (map (row_at others) places)
  column_and_others k known cells others [] = refl
  column_and_others k known cells others (p ∷ places) =
      column_and_others (add k (get_or cells p null)) (by_column add known (row_at others p)) cells others places

  grid : (known : List (Option S)) (columns : List ColumnView) (p : ℕ) (places : List ℕ)
      → fold (by_column add) known (map (row_at (map view_cells columns)) (p ∷ places)) ≡ by_column (with_places (p ∷ places)) known columns
  grid known [] p places = no_columns known (p ∷ places)
  grid [] (c ∷ columns) p places =
      column_and_others (add None (get_or (view_cells c) p null)) (by_column add [] (row_at (map view_cells columns) p)) (view_cells c) (map view_cells columns) places
      ∙ ap (λ rest. with_places (p ∷ places) None c ∷ rest) (grid [] columns p places)
  grid (k ∷ known) (c ∷ columns) p places =
      column_and_others k known (view_cells c) (map view_cells columns) (p ∷ places) ∙ ap (λ rest. with_places (p ∷ places) k c ∷ rest) (grid known columns p places)

  same_by_column : (f g : Option S → ColumnView → Option S) (known : List (Option S)) (columns : List ColumnView) → All (λ c. (k : Option S) → f k c ≡ g k c) columns
      → by_column f known columns ≡ by_column g known columns
  same_by_column f g known [] same = refl
  same_by_column f g [] (c ∷ columns) same =
      let first : f None c ≡ g None c = All-head (λ c. (k : Option S) → f k c ≡ g k c) c columns same None in
      λ i. first i ∷ same_by_column f g [] columns (All-tail (λ c. (k : Option S) → f k c ≡ g k c) c columns same) i
  same_by_column f g (k ∷ known) (c ∷ columns) same =
      let first : f k c ≡ g k c = All-head (λ c. (k : Option S) → f k c ≡ g k c) c columns same k in
      λ i. first i ∷ same_by_column f g known columns (All-tail (λ c. (k : Option S) → f k c ≡ g k c) c columns same) i

  -- some rows, column by column
  pub rows_by_column : (n : ℕ) (known : List (Option S)) (columns : List ColumnView) → 1 ≤ n → All (HasRows n) columns
      → by_column (λ k column. fold add k (take n (view_cells column))) known columns ≡ fold (by_column add) known (view_rows columns n)
  rows_by_column zero known columns some long = absurd (let no : ⊥ = omega (arith, some) in no)
  rows_by_column (suc n) known columns some long =
      same_by_column (λ k column. fold add k (take (suc n) (view_cells column))) (with_places (range_with_len 0 (suc n))) known columns
      (All-weaker (HasRows (suc n)) (λ c. (k : Option S) → fold add k (take (suc n) (view_cells c)) ≡ with_places (range_with_len 0 (suc n)) k c)
      (λ c has k. ap (fold add k) (front_is (suc n) c has)) columns long)
      ∙ sym (grid known columns 0 (range_with_len 1 n))

spans_shown : (extents : List (Option Extent)) (rows : List (List Datum)) → (length rows, spanned (fold (by_column extent_with) extents rows)) ≡ shown_rows (spanned extents) rows
spans_shown extents [] = refl
spans_shown extents (row ∷ rows) = ap one_row_more (spans_shown (by_column extent_with extents row) rows)

widths_shown : (widths : List (Option Width)) (rows : List (List Datum)) → (length rows, measured (fold (by_column width_with) widths rows)) ≡ shown_rows (measured widths) rows
widths_shown widths [] = refl
widths_shown widths (row ∷ rows) = ap one_row_more (widths_shown (by_column width_with widths row) rows)

module _ (n : ℕ) (columns : List ColumnView) (some : 1 ≤ n) (long : All (HasRows n) columns) where
  pub spans_by_column : (old new : List (Option Extent)) → new ≡ by_column (λ k column. fold extent_with k (take n (view_cells column))) old columns
      → (n, spanned new) ≡ shown_rows (spanned old) (view_rows columns n)
  spans_by_column old new told =
      (λ i. (sym (many columns n) i, spanned ((told ∙ rows_by_column extent_with n old columns some long) i))) ∙ spans_shown old (view_rows columns n)

  pub widths_by_column : (old new : List (Option Width)) → new ≡ by_column (λ k column. fold width_with k (take n (view_cells column))) old columns
      → (n, measured new) ≡ shown_rows (measured old) (view_rows columns n)
  widths_by_column old new told =
      (λ i. (sym (many columns n) i, measured ((told ∙ rows_by_column width_with n old columns some long) i))) ∙ widths_shown old (view_rows columns n)

-- ---- cells that aren't null

counts_shown : (seen cells : ℕ) (rows : List (List Datum)) → (length rows, counted (seen + length rows) (cells + sum_by (count_by is_filled) rows)) ≡ shown_rows (counted seen cells) rows
counts_shown seen cells [] = (let a : seen + 0 ≡ seen = omega arith in let b : cells + 0 ≡ cells = omega arith in λ i. (0, counted (a i) (b i)))
counts_shown seen cells (row ∷ rows) =
    let first : seen + suc (length rows) ≡ seen + 1 + length rows = omega arith in
    let more = sum_by-cons (count_by is_filled) row rows in
    let sums : cells + sum_by (count_by is_filled) (row ∷ rows) ≡ cells + count_by is_filled row + sum_by (count_by is_filled) rows = omega (arith, more) in
    (λ i. (suc (length rows), counted (first i) (sums i))) ∙ ap one_row_more (counts_shown (seen + 1) (cells + count_by is_filled row) rows)

no_cells : (places : List ℕ) → sum_by (count_by is_filled) (map (row_at []) places) ≡ 0
no_cells [] = refl
no_cells (p ∷ places) =
    let rest = no_cells places in
    let more = sum_by-cons (count_by is_filled) [] (map (row_at []) places) in
    omega (arith, rest, more)

first_column : (cells : List Datum) (others : List (List Datum)) (places : List ℕ)
    → sum_by (count_by is_filled) (map (row_at (cells ∷ others)) places) ≡ count_by is_filled (picked cells places) + sum_by (count_by is_filled) (map (row_at others) places)
first_column cells others [] = refl
first_column cells others (p ∷ places) =
    let rest = first_column cells others places in
    let here = sum_by-cons (λ d. if is_filled d then 1 else 0) (get_or cells p null) (row_at others p) in
    let down = sum_by-cons (λ d. if is_filled d then 1 else 0) (get_or cells p null) (picked cells places) in
    let rows = sum_by-cons (count_by is_filled) (get_or cells p null ∷ row_at others p) (map (row_at (cells ∷ others)) places) in
    let beside = sum_by-cons (count_by is_filled) (row_at others p) (map (row_at others) places) in
    omega (arith, rest, here, down, rows, beside)

cells_in_columns : (columns : List ColumnView) (places : List ℕ)
    → sum_by (count_by is_filled) (map (row_at (map view_cells columns)) places) ≡ sum_by (λ c. count_by is_filled (picked (view_cells c) places)) columns
cells_in_columns [] places = no_cells places
cells_in_columns (c ∷ columns) places =
    let first = first_column (view_cells c) (map view_cells columns) places in
    let rest = cells_in_columns columns places in
    let more = sum_by-cons (λ c. count_by is_filled (picked (view_cells c) places)) c columns in
    omega (arith, first, rest, more)

same_sums : (f g : ColumnView → ℕ) (columns : List ColumnView) → All (λ c. f c ≡ g c) columns → sum_by f columns ≡ sum_by g columns
same_sums f g [] same = refl
same_sums f g (c ∷ columns) same =
    let first = All-head (λ c. f c ≡ g c) c columns same in
    let rest = same_sums f g columns (All-tail (λ c. f c ≡ g c) c columns same) in
    let left = sum_by-cons f c columns in
    let right = sum_by-cons g c columns in
    omega (arith, first, rest, left, right)

pub counts_by_column : (n : ℕ) (columns : List ColumnView) (rows cells more : ℕ) → All (HasRows n) columns → more ≡ sum_by (λ column. count_by is_filled (take n (view_cells column))) columns
    → (n, counted (rows + n) (cells + more)) ≡ shown_rows (counted rows cells) (view_rows columns n)
counts_by_column n columns rows cells more long told =
    let all : more ≡ sum_by (count_by is_filled) (view_rows columns n) =
    told ∙ same_sums (λ column. count_by is_filled (take n (view_cells column))) (λ c. count_by is_filled (picked (view_cells c) (range_with_len 0 n))) columns
    (All-weaker (HasRows n) (λ c. count_by is_filled (take n (view_cells c)) ≡ count_by is_filled (picked (view_cells c) (range_with_len 0 n))) (λ c has. ap (count_by is_filled) (front_is n c has)) columns long)
    ∙ sym (cells_in_columns columns (range_with_len 0 n)) in
    (λ i. (sym (many columns n) i, counted (rows + sym (many columns n) i) (cells + all i))) ∙ counts_shown rows cells (view_rows columns n)

sums_are_few : (most : ℕ) (f : ColumnView → ℕ) (columns : List ColumnView) → ((c : ColumnView) → f c ≤ most) → sum_by f columns ≤ most * length columns
sums_are_few most f [] few = omega arith
sums_are_few most f (c ∷ columns) few =
    let here = few c in
    let rest = sums_are_few most f columns few in
    let more = sum_by-cons f c columns in
    let all : most * suc (length columns) ≡ most + most * length columns = omega arith in
    omega (arith, here, rest, more, all)

pub counts_are_few : (n : ℕ) (columns : List ColumnView) (more : ℕ) → more ≡ sum_by (λ column. count_by is_filled (take n (view_cells column))) columns → more ≤ n * length columns
counts_are_few n columns more told =
    let few = sums_are_few n (λ column. count_by is_filled (take n (view_cells column))) columns
    (λ c. let one = count_by-le-length is_filled (take n (view_cells c)) in let long = length-take n (view_cells c) in omega (arith, one, long)) in
    omega (arith, told, few)
