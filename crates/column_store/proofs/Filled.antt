-- The columns of a chunk through its calls.
use Rattle.std.proofs.Common.{◌≡◌, ℕ, ◌+◌, ◌-◌, ◌^◌, ◌<◌, ◌≤◌, refl, sym, ap, ◌∙◌, arith, List, [], ◌∷◌, ◌++◌, length, get_or, take, map, inl, inr, Result, Ok, Err}
use Rattle.std.specs.Prelude.{OnErr}
use Rattle.std.proofs.lemmas.Bool.{cases_lt}
use Rattle.std.proofs.lemmas.List.{length-map, length-take, take-take, take_all}
use Rattle.value_types.specs.Datum.{Datum, null}
use Rattle.value_types.specs.Views.{row_at}
use Rattle.value_types.specs.declared.types.ColumnType.{ColumnType}
use Rattle.column_store.specs.ChunkView.{ChunkView, chunk_view}
use Rattle.column_store.specs.declared.column.Column.{Column}
use Rattle.column_store.specs.ColumnCells.{cells_of, type_of}
use Rattle.column_store.specs.ColumnChanges.{EachColumn, HasCells, IsCut, KeepsCells}
use Rattle.column_store.specs.IsFilled.{IsFilled}
use Rattle.column_store.specs.RowsOfColumns.{rows_of}
use Rattle.column_store.proofs.Rows.{length-rows_of, rows_same, maps_same, rows_of-fewer, rows_of-more}

-- ---- what is seen of a chunk

pub same_view : {types types' : List ColumnType} {rows rows' : List (List Datum)} {unfinished unfinished' : List Datum} {spare spare' : ℕ} →
    types ≡ types' → rows ≡ rows' → unfinished ≡ unfinished' → spare ≡ spare' →
    ◌≡◌ {A = ChunkView} (record { types = types; rows = rows; unfinished = unfinished; spare = spare }) (record { types = types'; rows = rows'; unfinished = unfinished'; spare = spare' })
same_view t r u s = λ i. record { types = t i; rows = r i; unfinished = u i; spare = s i }

pub on_err : {T E Q : Type 0} (r : Result T E) → Q → OnErr r Q
on_err (Ok x) q = tt
on_err (Err e) q = q

module _ {xs : List Column} {rows begun spare : ℕ} (filled : IsFilled xs rows begun spare) where
  pub cells_at_least : (number : ℕ) (other : Column) → number < length xs → rows ≤ length (cells_of (get_or xs number other))
  cells_at_least number other inside = elim (cases_lt number begun) [
    | inl below ↦ omega (arith, filled.longer number other below)
    | inr low ↦ omega (arith, filled.waiting number other low inside)
  ]

  -- other columns of the same cells, and no row is spare
  pub filled_packed : (ys : List Column) → EachColumn (λ _. HasCells) xs ys → IsFilled ys rows begun 0
  filled_packed ys same = record {
    within = omega (arith, filled.within, same.count);
    longer = λ number other below. ap length (same.each number other (omega (arith, below, filled.within))).cells ∙ filled.longer number other below;
    waiting = λ number other low inside.
        let there : number < length xs = omega (arith, inside, same.count) in
        ap length (same.each number other there).cells ∙ filled.waiting number other low there;
    roomy = λ number other inside some. absurd (let no : ⊥ = omega (arith, some) in no);
    countable = omega (arith, filled.countable);
  }

  module _ {view : ChunkView} (seen : chunk_view xs rows begun spare ≡ view) where
    pub rows_seen : rows ≡ length view.rows
    rows_seen = sym (length-rows_of (map cells_of xs) rows) ∙ (λ i. length (seen i).rows)

    pub columns_seen : length xs ≡ length view.types
    columns_seen = sym (length-map xs type_of) ∙ (λ i. length (seen i).types)

    -- the cells of the row under way are as many as the columns that have one
    pub begun_seen : begun ≡ length view.unfinished
    begun_seen =
        let count : length (row_at (take begun (map cells_of xs)) rows) ≡ length (take begun (map cells_of xs)) = length-map (take begun (map cells_of xs)) (λ (cells : List Datum). get_or cells rows null) in
        omega (arith, filled.within, count, length-take begun (map cells_of xs), length-map xs cells_of, ap length (λ i. (seen i).unfinished))

    -- ---- all columns are cut

    module _ (ys : List Column) (fewer : ℕ) (few : fewer ≤ rows) (cut : EachColumn (λ _. IsCut fewer) xs ys) where
      rows_cut : rows_of (map cells_of ys) fewer ≡ take fewer (rows_of (map cells_of xs) rows)
      rows_cut = rows_same xs ys fewer cut.count (λ number other inside. ap (take fewer) (cut.each number other inside).cells ∙ take-take fewer fewer (cells_of (get_or xs number other)) (omega arith))
          ∙ rows_of-fewer (map cells_of xs) rows fewer few

      pub seen_cut : (left : ℕ) → chunk_view ys fewer 0 left ≡ record view { rows = take fewer view.rows; unfinished = []; spare = left }
      seen_cut left = same_view (maps_same type_of xs ys cut.count (λ number other inside. (cut.each number other inside).ty) ∙ (λ i. (seen i).types)) (rows_cut ∙ (λ i. take fewer (seen i).rows)) refl refl

    -- ---- the row under way is finished

    module _ (all : length view.unfinished ≡ length view.types) (left : ℕ) where
      every : begun ≡ length xs
      every = omega (arith, begun_seen, columns_seen, all)

      pub filled_finish : left ≡ spare - 1 → rows + 1 < 2 ^ 64 → IsFilled xs (rows + 1) 0 left
      filled_finish is fits = record {
        within = omega arith;
        longer = λ number other below. absurd (let no : ⊥ = omega (arith, below) in no);
        waiting = λ number other low inside. filled.longer number other (omega (arith, every, inside));
        roomy = λ number other inside some. omega (arith, is, some, filled.roomy number other inside (omega (arith, is, some)));
        countable = omega (arith, is, fits, filled.countable);
      }

      pub seen_finish : chunk_view xs (rows + 1) 0 left ≡ record view { rows = view.rows ++ view.unfinished ∷ []; unfinished = []; spare = left }
      seen_finish = same_view (λ i. (seen i).types)
          (rows_of-more (map cells_of xs) rows ∙ ap (λ cs. rows_of (map cells_of xs) rows ++ row_at cs rows ∷ []) (sym (take_all begun (map cells_of xs) (omega (arith, every, length-map xs cells_of))))
          ∙ (λ i. (seen i).rows ++ (seen i).unfinished ∷ [])) refl refl

pub cells_kept : (xs ys : List Column) → EachColumn (λ _. KeepsCells) xs ys → EachColumn (λ _. HasCells) xs ys
cells_kept xs ys kept = record { count = kept.count; each = λ number other inside. let same = kept.each number other inside in record { ty = same.ty; cells = same.cells } }

-- only what the cells of the columns are kept in has changed, and nothing is seen of it
pub seen_kept : (xs ys : List Column) → EachColumn (λ _. HasCells) xs ys → (rows begun spare : ℕ) → chunk_view ys rows begun spare ≡ chunk_view xs rows begun spare
seen_kept xs ys kept rows begun spare =
    let cells : map cells_of ys ≡ map cells_of xs = maps_same cells_of xs ys kept.count (λ number other inside. (kept.each number other inside).cells) in
    same_view (maps_same type_of xs ys kept.count (λ number other inside. (kept.each number other inside).ty)) (ap (λ cs. rows_of cs rows) cells) (ap (λ cs. row_at (take begun cs) rows) cells) refl
