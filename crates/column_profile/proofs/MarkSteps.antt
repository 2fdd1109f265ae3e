-- The cells of a column, by their marks and values.
use Rattle.std.proofs.Common.{◌≡◌, ℕ, zero, suc, ◌≤◌, Bool, true, false, List, [], ◌∷◌, length, take, refl, ap, ◌∙◌, arith}
use Rattle.std.specs.Prelude.{count_by, if◌then◌else◌}
use Rattle.std.specs.List.{fold}
use Rattle.std.proofs.lemmas.List.Sums.{sum_by-cons}
use Rattle.value_types.specs.Datum.{Datum, null, text, typed}
use Rattle.value_types.specs.declared.types.Value.TheVariants as values
use Rattle.value_types.specs.declared.views.ColumnView.{ColumnView}
use Rattle.value_types.specs.declared.views.ColumnView.TheVariants as views
use Rattle.value_types.specs.Marked.{marked}
use Rattle.value_types.specs.Packed.{numbers_in}
use Rattle.value_types.specs.Views.{view_cells, nulls_in, HasRows}
use Rattle.column_profile.specs.Tally.{is_null_cell}

no_marks : (n : ℕ) → count_by (λ (mark : Bool). mark) (take n []) ≡ 0
no_marks zero = refl
no_marks (suc n) = refl

module _ {A : Type 0} (cell : A → Datum) where
  -- cells that change nothing
  pub fold_marked : {S : Type 0} (add : S → Datum → S) (s : S) (n : ℕ) (nulls : List Bool) (values : List A) → add s null ≡ s → ((v : A) → add s (cell v) ≡ s)
      → fold add s (take n (marked cell nulls values)) ≡ s
  fold_marked add s zero nulls values none each = refl
  fold_marked add s (suc n) nulls [] none each = refl
  fold_marked add s (suc n) [] (v ∷ values) none each = ap (λ t. fold add t (take n (marked cell [] values))) (each v) ∙ fold_marked add s n [] values none each
  fold_marked add s (suc n) (true ∷ nulls) (v ∷ values) none each = ap (λ t. fold add t (take n (marked cell nulls values))) none ∙ fold_marked add s n nulls values none each
  fold_marked add s (suc n) (false ∷ nulls) (v ∷ values) none each = ap (λ t. fold add t (take n (marked cell nulls values))) (each v) ∙ fold_marked add s n nulls values none each

  -- a cell is null where its mark is set
  count_marked : (n : ℕ) (nulls : List Bool) (values : List A) → ((v : A) → is_null_cell (cell v) ≡ false) → n ≤ length values
      → count_by (λ (mark : Bool). mark) (take n nulls) ≡ count_by is_null_cell (take n (marked cell nulls values))
  count_marked zero nulls values filled all = refl
  count_marked (suc n) nulls [] filled all = absurd (let no : ⊥ = omega (arith, all) in no)
  count_marked (suc n) [] (v ∷ values) filled all =
      let rest = count_marked n [] values filled (omega (arith, all)) in
      let none : count_by (λ (mark : Bool). mark) (take n []) ≡ 0 = no_marks n in
      let cells = sum_by-cons (λ d. if is_null_cell d then 1 else 0) (cell v) (take n (marked cell [] values)) in
      let one : ◌≡◌ {A = ℕ} (if is_null_cell (cell v) then 1 else 0) 0 = ap (λ b. if b then 1 else 0) (filled v) in
      omega (arith, rest, none, cells, one)
  count_marked (suc n) (true ∷ nulls) (v ∷ values) filled all =
      let rest = count_marked n nulls values filled (omega (arith, all)) in
      let marks = sum_by-cons (λ (b : Bool). if b then 1 else 0) true (take n nulls) in
      let cells = sum_by-cons (λ d. if is_null_cell d then 1 else 0) null (take n (marked cell nulls values)) in
      omega (arith, rest, marks, cells)
  count_marked (suc n) (false ∷ nulls) (v ∷ values) filled all =
      let rest = count_marked n nulls values filled (omega (arith, all)) in
      let marks = sum_by-cons (λ (b : Bool). if b then 1 else 0) false (take n nulls) in
      let cells = sum_by-cons (λ d. if is_null_cell d then 1 else 0) (cell v) (take n (marked cell nulls values)) in
      let one : ◌≡◌ {A = ℕ} (if is_null_cell (cell v) then 1 else 0) 0 = ap (λ b. if b then 1 else 0) (filled v) in
      omega (arith, rest, marks, cells, one)

pub nulls_by_marks : (n : ℕ) (view : ColumnView) → HasRows n view → count_by (λ (mark : Bool). mark) (take n (nulls_in view)) ≡ count_by is_null_cell (take n (view_cells view))
nulls_by_marks n (views.Boolean nulls column) long = count_marked (λ b. typed (values.Bool b)) n nulls.now column.now (λ b. refl) long
nulls_by_marks n (views.Bigint column) long = count_marked (λ z. typed (values.Int z)) n column.nulls.now (numbers_in column.values) (λ z. refl) long
nulls_by_marks n (views.Date nulls column) long = count_marked (λ z. typed (values.Date z)) n nulls.now column.now (λ z. refl) long
nulls_by_marks n (views.Time nulls column) long = count_marked (λ z. typed (values.Time z)) n nulls.now column.now (λ z. refl) long
nulls_by_marks n (views.Timestamp nulls column) long = count_marked (λ z. typed (values.Stamp z)) n nulls.now column.now (λ z. refl) long
nulls_by_marks n (views.Varchar nulls column) long = count_marked text n nulls.now column.now (λ t. refl) long
