-- The texts of rows that stand in columns.
use Rattle.std.proofs.Common.{◌≡◌, ℕ, zero, suc, ◌+◌, ◌<◌, ◌≤◌, Bool, true, false, List, [], ◌∷◌, ◌++◌, Some, None, length, take, map, get_or, refl, sym, ap, ◌∙◌, add-one, add-zero, append_assoc, arith}
use Rattle.std.specs.Prelude.{All, if◌then◌else◌, nat_le}
use Rattle.std.proofs.lemmas.Bool.{le-leb}
use Rattle.std.proofs.lemmas.List.{append-nil}
use Rattle.std.proofs.lemmas.List.Elements.{All-nil, All-cons, All-append, All-head, All-tail}
use Rattle.value_types.specs.Datum.{Datum, null, typed, text}
use Rattle.value_types.specs.declared.types.Value.TheVariants as values
use Rattle.value_types.specs.declared.views.ColumnView.{ColumnView}
use Rattle.value_types.specs.declared.views.ColumnView.TheVariants as views
use Rattle.value_types.specs.Marked.{marked}
use Rattle.value_types.specs.Packed.{numbers_in}
use Rattle.value_types.specs.Views.{row_at, rows_from, view_cells, view_rows, HasRows}
use Rattle.column_taps.specs.declared.text_columns.TextColumn.{TextColumn}
use Rattle.column_taps.specs.Pairs.{Pair, pairs_and_cell, pairs_with}
use Rattle.column_taps.specs.Seen.{told_apart, step}
use Rattle.column_taps.specs.Shown.{one_row_more, shown_rows}
use Rattle.column_taps.specs.TextColumns.{as_texts, texts_among, HasTexts, pairs_with_texts}
use Rattle.column_taps.proofs.ShownSteps.{behind}

-- ---- the columns

texts_suc : (place : ℕ) (columns : List ColumnView) (k : ℕ) (d : ColumnView) → k < length columns
    → texts_among place (take (suc k) columns) ≡ texts_among place (take k columns) ++ as_texts (place + k) (get_or columns k d)
texts_suc place [] k d within = absurd (let no : ⊥ = omega (arith, within) in no)
texts_suc place (c ∷ columns) zero d within = append-nil (as_texts place c) ∙ ap (λ n. as_texts n c) (sym (add-zero place))
texts_suc place (c ∷ columns) (suc k) d within =
    let next : place + 1 + k ≡ place + suc k = omega arith in
    ap (λ rest. as_texts place c ++ rest) (texts_suc (place + 1) columns k d (omega (arith, within)))
    ∙ sym (append_assoc (as_texts place c) (texts_among (place + 1) (take k columns)) (as_texts (place + 1 + k) (get_or columns k d)))
    ∙ ap (λ n. (as_texts place c ++ texts_among (place + 1) (take k columns)) ++ as_texts n (get_or columns k d)) next

-- one column more
pub texts_more : (columns : List ColumnView) (k : ℕ) (column : ColumnView) (found more : List TextColumn) → k < length columns → column ≡ get_or columns k column
    → found ≡ texts_among 0 (take k columns) → more ≡ found ++ as_texts k column → more ≡ texts_among 0 (take (k + 1) columns)
texts_more columns k column found more within is so_far told =
    let place : k ≡ 0 + k = omega arith in
    rw add-one (told ∙ (λ i. so_far i ++ as_texts (place i) (is i)) ∙ sym (texts_suc 0 columns k column within))

-- ---- the pairs of a row

module _ (row : ℕ) where
  pairs_behind : (pairs : List Pair) (xs ys : List TextColumn) → pairs_with_texts row pairs (xs ++ ys) ≡ pairs_with_texts row (pairs_with_texts row pairs xs) ys
  pairs_behind pairs [] ys = refl
  pairs_behind pairs (x ∷ xs) ys = pairs_behind (pairs_and_cell x.place pairs (get_or (marked text x.nulls.now x.texts.now) row null)) xs ys

no_text : {A : Type 0} (cell : A → Datum) (place : ℕ) (pairs : List Pair) → ((v : A) → pairs_and_cell place pairs (cell v) ≡ pairs) → (row : ℕ) (nulls : List Bool) (values : List A)
    → pairs_and_cell place pairs (get_or (marked cell nulls values) row null) ≡ pairs
no_text cell place pairs none row nulls [] = refl
no_text cell place pairs none zero [] (v ∷ values) = none v
no_text cell place pairs none (suc row) [] (v ∷ values) = no_text cell place pairs none row [] values
no_text cell place pairs none zero (true ∷ nulls) (v ∷ values) = refl
no_text cell place pairs none zero (false ∷ nulls) (v ∷ values) = none v
no_text cell place pairs none (suc row) (b ∷ nulls) (v ∷ values) = no_text cell place pairs none row nulls values

one_column : (row place : ℕ) (pairs : List Pair) (column : ColumnView) → pairs_and_cell place pairs (get_or (view_cells column) row null) ≡ pairs_with_texts row pairs (as_texts place column)
one_column row place pairs (views.Boolean nulls column) = no_text (λ b. typed (values.Bool b)) place pairs (λ b. refl) row nulls.now column.now
one_column row place pairs (views.Bigint column) = no_text (λ z. typed (values.Int z)) place pairs (λ z. refl) row column.nulls.now (numbers_in column.values)
one_column row place pairs (views.Date nulls column) = no_text (λ z. typed (values.Date z)) place pairs (λ z. refl) row nulls.now column.now
one_column row place pairs (views.Time nulls column) = no_text (λ z. typed (values.Time z)) place pairs (λ z. refl) row nulls.now column.now
one_column row place pairs (views.Timestamp nulls column) = no_text (λ z. typed (values.Stamp z)) place pairs (λ z. refl) row nulls.now column.now
one_column row place pairs (views.Varchar nulls texts) = refl

-- cells in columns that aren't texts leave the pairs as they are
pub texts_alone : (row place : ℕ) (pairs : List Pair) (columns : List ColumnView) → pairs_with place pairs (row_at (map view_cells columns) row) ≡ pairs_with_texts row pairs (texts_among place columns)
texts_alone row place pairs [] = refl
texts_alone row place pairs (c ∷ columns) =
    ap (λ p. pairs_with (place + 1) p (row_at (map view_cells columns) row)) (one_column row place pairs c)
    ∙ texts_alone row (place + 1) (pairs_with_texts row pairs (as_texts place c)) columns
    ∙ sym (pairs_behind row pairs (as_texts place c) (texts_among (place + 1) columns))

-- one column of texts more
with_one_more : (row : ℕ) (pairs : List Pair) (columns : List TextColumn) (k : ℕ) (d : TextColumn) → k < length columns
    → pairs_with_texts row pairs (take (suc k) columns) ≡ pairs_and_cell (get_or columns k d).place (pairs_with_texts row pairs (take k columns)) (get_or (marked text (get_or columns k d).nulls.now (get_or columns k d).texts.now) row null)
with_one_more row pairs [] k d within = absurd (let no : ⊥ = omega (arith, within) in no)
with_one_more row pairs (c ∷ columns) zero d within = refl
with_one_more row pairs (c ∷ columns) (suc k) d within =
    with_one_more row (pairs_and_cell c.place pairs (get_or (marked text c.nulls.now c.texts.now) row null)) columns k d (omega (arith, within))

pub texts_with_one : (row : ℕ) (old now more : List Pair) (columns : List TextColumn) (k : ℕ) (column : TextColumn) → k < length columns → column ≡ get_or columns k column
    → now ≡ pairs_with_texts row old (take k columns) → more ≡ pairs_and_cell column.place now (get_or (marked text column.nulls.now column.texts.now) row null)
    → more ≡ pairs_with_texts row old (take (k + 1) columns)
texts_with_one row old now more columns k column within is so_far told =
    rw add-one (told ∙ (λ i. pairs_and_cell (is i).place (so_far i) (get_or (marked text (is i).nulls.now (is i).texts.now) row null)) ∙ sym (with_one_more row old columns k column within))

-- ---- rows that are there

have_texts : (count most place : ℕ) (column : ColumnView) → count ≤ most → HasRows most column → All (HasTexts count) (as_texts place column)
have_texts count most place (views.Boolean nulls column) less long = All-nil (HasTexts count)
have_texts count most place (views.Bigint column) less long = All-nil (HasTexts count)
have_texts count most place (views.Date nulls column) less long = All-nil (HasTexts count)
have_texts count most place (views.Time nulls column) less long = All-nil (HasTexts count)
have_texts count most place (views.Timestamp nulls column) less long = All-nil (HasTexts count)
have_texts count most place (views.Varchar nulls texts) less long = All-cons (HasTexts count) _ [] (omega (arith, less, long)) (All-nil (HasTexts count))

pub all_have_texts : (count most place : ℕ) (columns : List ColumnView) → count ≤ most → All (HasRows most) columns → All (HasTexts count) (texts_among place columns)
all_have_texts count most place [] less long = All-nil (HasTexts count)
all_have_texts count most place (c ∷ columns) less long =
    All-append (HasTexts count) (as_texts place c) (texts_among (place + 1) columns)
    (have_texts count most place c less (All-head (HasRows most) c columns long))
    (all_have_texts count most (place + 1) columns less (All-tail (HasRows most) c columns long))

-- ---- rows without texts

stays : (most : ℕ) (pairs : List Pair) (row : List Datum) → length pairs ≤ most → pairs_with 0 pairs row ≡ pairs → step (told_apart most pairs) row ≡ Some (told_apart most pairs)
stays most pairs row few same =
    ap (λ p. if nat_le (length p) most then Some (told_apart most p) else None) same
    ∙ ap (λ (b : Bool). if b then Some (told_apart most pairs) else None) (le-leb (length pairs) most few)

all_stay : (most : ℕ) (pairs : List Pair) (columns : List (List Datum)) → length pairs ≤ most → ((row : ℕ) → pairs_with 0 pairs (row_at columns row) ≡ pairs) → (start n : ℕ)
    → (n, told_apart most pairs) ≡ shown_rows (told_apart most pairs) (rows_from columns start n)
all_stay most pairs columns few same start zero = refl
all_stay most pairs columns few same start (suc n) =
    ap one_row_more (all_stay most pairs columns few same (start + 1) n)
    ∙ ap (behind (told_apart most pairs) (rows_from columns (start + 1) n)) (sym (stays most pairs (row_at columns start) few (same start)))

-- rows of columns of which none is one of texts all go, and leave the pairs as they are
pub no_texts_go : (most rows : ℕ) (pairs : List Pair) (columns : List ColumnView) → length pairs ≤ most → texts_among 0 columns ≡ []
    → (rows, told_apart most pairs) ≡ shown_rows (told_apart most pairs) (view_rows columns rows)
no_texts_go most rows pairs columns few none =
    all_stay most pairs (map view_cells columns) few (λ row. texts_alone row 0 pairs columns ∙ ap (pairs_with_texts row pairs) none) 0 rows
