-- Whether a cell of a column is null, by the marks.
use Rattle.std.proofs.Common.{◌≡◌, ℕ, zero, suc, ◌<◌, ◌≤◌, Bool, true, false, List, [], ◌∷◌, ◌++◌, length, take, get_or, refl, sym, ap, ◌∙◌, arith}
use Rattle.std.specs.Prelude.{◌||◌, min, if◌then◌else◌}
use Rattle.std.specs.List.{list_any}
use Rattle.std.proofs.Math.Seq.{take-nil}
use Rattle.std.proofs.lemmas.List.{map-append}
use Rattle.std.proofs.lemmas.List.Folds.{list_any-append}
use Rattle.value_types.specs.Datum.{Datum, null, typed, text}
use Rattle.value_types.specs.declared.types.Value.TheVariants as values
use Rattle.value_types.specs.declared.views.ColumnView.{ColumnView}
use Rattle.value_types.specs.declared.views.ColumnView.TheVariants as views
use Rattle.value_types.specs.Marked.{marked}
use Rattle.value_types.specs.Packed.{numbers_in}
use Rattle.value_types.specs.Views.{HasRows, nulls_in, view_cells}
use Rattle.column_store.specs.ChunkView.{ChunkView}
use Rattle.column_store.specs.Stacked.{rows_in}
use Rattle.column_store.specs.TableView.{column_of}
use Rattle.npz_writer.specs.Arrays.{is_null}

-- ---- the cells of a view

module _ {A : Type 0} (cell : A → Datum) (not_null : (value : A) → is_null (cell value) ≡ false) where
  mark_of : (mark : Bool) (value : A) → is_null (if mark then null else cell value) ≡ mark
  mark_of true value = refl
  mark_of false value = not_null value

  none_marked : (values : List A) (rows : ℕ) → list_any is_null (take rows (marked cell [] values)) ≡ false
  none_marked values zero = refl
  none_marked [] (suc rows) = refl
  none_marked (v ∷ values) (suc rows) = λ i. not_null v i || none_marked values rows i

  any_marked : (nulls : List Bool) (values : List A) (rows : ℕ) → rows ≤ length values → list_any is_null (take rows (marked cell nulls values)) ≡ list_any (λ mark. mark) (take rows nulls)
  any_marked nulls values zero within = refl
  any_marked nulls [] (suc rows) within = absurd (let no : ⊥ = omega (arith, within) in no)
  any_marked [] (v ∷ values) (suc rows) within = none_marked (v ∷ values) (suc rows)
  any_marked (n ∷ nulls) (v ∷ values) (suc rows) within = λ i. mark_of n v i || any_marked nulls values rows (omega (arith, within)) i

pub null_in_view : (view : ColumnView) (rows : ℕ) → HasRows rows view → list_any is_null (take rows (view_cells view)) ≡ list_any (λ mark. mark) (take rows (nulls_in view))
null_in_view (views.Boolean nulls column) rows long = any_marked (λ b. typed (values.Bool b)) (λ _. refl) nulls.now column.now rows long
null_in_view (views.Bigint column) rows long = any_marked (λ n. typed (values.Int n)) (λ _. refl) column.nulls.now (numbers_in column.values) rows long
null_in_view (views.Date nulls column) rows long = any_marked (λ n. typed (values.Date n)) (λ _. refl) nulls.now column.now rows long
null_in_view (views.Time nulls column) rows long = any_marked (λ n. typed (values.Time n)) (λ _. refl) nulls.now column.now rows long
null_in_view (views.Timestamp nulls column) rows long = any_marked (λ n. typed (values.Stamp n)) (λ _. refl) nulls.now column.now rows long
null_in_view (views.Varchar nulls texts) rows long = any_marked text (λ _. refl) nulls.now texts.now rows long

-- the marks of some rows, where there are so many
pub take_least : (marks : List Bool) (least rows : ℕ) → least ≡ min (length marks) rows → take least marks ≡ take rows marks
take_least [] least rows is = take-nil least ∙ sym (take-nil rows)
take_least (m ∷ marks) zero zero is = refl
take_least (m ∷ marks) zero (suc rows) is = absurd (let no : ⊥ = omega (arith, is) in no)
take_least (m ∷ marks) (suc least) zero is = absurd (let no : ⊥ = omega (arith, is) in no)
take_least (m ∷ marks) (suc least) (suc rows) is = ap (λ rest. m ∷ rest) (take_least marks least rows (omega (arith, is)))

-- whether one is set, by a test that tells so
pub any_set : (test : Bool → Bool) (marks : List Bool) (found : Bool) → found ≡ list_any test marks → test true ≡ true → test false ≡ false → found ≡ list_any (λ mark. mark) marks
any_set test marks found is set unset = is ∙ (λ i. list_any (λ mark. same mark i) marks) where
  same : (mark : Bool) → test mark ≡ mark
  same true = set
  same false = unset

-- ---- the cells of chunks

abbrev pub null_in : List (List Datum) → ℕ → Bool
null_in rows column = list_any is_null (column_of rows column)

pub null-append : (xs ys : List (List Datum)) (column : ℕ) → null_in (xs ++ ys) column ≡ (null_in xs column || null_in ys column)
null-append xs ys column =
    let cell : List Datum → Datum = λ row. get_or row column null in
    ap (list_any is_null) (map-append cell xs ys) ∙ list_any-append is_null (column_of xs column) (column_of ys column)

-- one of the chunks has a null cell
pub null_at_chunk : (chunks : List ChunkView) (number : ℕ) (chunk : ChunkView) (column : ℕ) → number < length chunks → chunk ≡ get_or chunks number chunk → null_in chunk.rows column ≡ true
    → null_in (rows_in chunks) column ≡ true
null_at_chunk [] number chunk column within is has = absurd (let no : ⊥ = omega (arith, within) in no)
null_at_chunk (c ∷ chunks) zero chunk column within is has =
    null-append c.rows (rows_in chunks) column ∙ ap (λ (x : Bool). x || null_in (rows_in chunks) column) (ap (λ (d : ChunkView). null_in d.rows column) (sym is) ∙ has)
null_at_chunk (c ∷ chunks) (suc number) chunk column within is has =
    null-append c.rows (rows_in chunks) column ∙ ap (λ (x : Bool). null_in c.rows column || x) (null_at_chunk chunks number chunk column (omega (arith, within)) is has) ∙ or_true (null_in c.rows column) where
      or_true : (x : Bool) → (x || true) ≡ true
      or_true true = refl
      or_true false = refl
