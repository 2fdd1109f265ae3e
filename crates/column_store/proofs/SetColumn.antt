-- A column of a chunk is set: the next one, or the last one that has a cell of the row under way.
use Rattle.std.proofs.Common.{◌≡◌, ◌≢◌, ℕ, ◌+◌, ◌<◌, ◌≤◌, refl, sym, ap, ◌∙◌, arith, List, [], ◌∷◌, ◌++◌, length, get_or, set, take, map, inl, inr}
use Rattle.std.proofs.lemmas.Bool.{cases_eq}
use Rattle.std.proofs.lemmas.List.{length-append, length-map, length-set, get_or-set_same, get_or-set_other, get_or_push, map-set, map_push, take_more_set, take_at}
use Rattle.value_types.specs.Datum.{Datum, null}
use Rattle.value_types.specs.Views.{row_at}
use Rattle.column_store.specs.ChunkView.{chunk_view}
use Rattle.column_store.specs.declared.column.Column.{Column}
use Rattle.column_store.specs.ColumnCells.{cells_of, room_of, type_of}
use Rattle.column_store.specs.ColumnChanges.{EachColumn, HasCells}
use Rattle.column_store.specs.IsFilled.{IsFilled}
use Rattle.column_store.proofs.ColumnLoops.{set_each}
use Rattle.column_store.proofs.Filled.{same_view, seen_kept}
use Rattle.column_store.proofs.Rows.{rows_same, maps_same}

-- the first cells are as they were, so many, and the memory may have grown
record KeepsFirst (rows : ℕ) (old new : Column) : Type 0 where
  pub ty : type_of new ≡ type_of old
  pub cells : take rows (cells_of new) ≡ take rows (cells_of old)
  pub room : room_of old ≤ room_of new

module _ (xs : List Column) (place : ℕ) (inside : place < length xs) {was : Column} (at : was ≡ get_or xs place was) (column : Column) (ty : type_of column ≡ type_of was) (room : room_of was ≤ room_of column) where
  abbrev ys : List Column
  ys = set xs place column

  -- ---- it has the same cells

  pub seen_as_before : cells_of column ≡ cells_of was → (rows begun spare : ℕ) → chunk_view ys rows begun spare ≡ chunk_view xs rows begun spare
  seen_as_before same = seen_kept xs ys (set_each HasCells (λ _. record { ty = refl; cells = refl }) xs place was column at inside (record { ty = ty; cells = same }))

  -- ---- it has a cell of the row under way, behind those of the finished rows

  module _ (rows begun spare : ℕ) (filled : IsFilled xs rows begun spare) (began : place ≤ begun) (ends : begun ≤ place + 1) (cells : List Datum) (cell : Datum)
      (kept : take rows (cells_of was) ≡ cells) (full : length cells ≡ rows) (got : cells_of column ≡ cells ++ cell ∷ []) where
    first : EachColumn (λ _. KeepsFirst rows) xs ys
    first = set_each (KeepsFirst rows) (λ _. record { ty = refl; cells = refl; room = omega arith }) xs place was column at inside
        (record { ty = ty; cells = ap (take rows) got ∙ take_at cells (cell ∷ []) rows full ∙ sym kept; room = room })

    long : length (cells_of column) ≡ rows + 1
    long = ap length got ∙ length-append cells (cell ∷ []) ∙ omega (arith, full)

    pub filled_set : IsFilled ys rows (place + 1) spare
    filled_set = record {
      within = omega (arith, length-set xs place column);
      longer = λ number other below. elim (cases_eq number place) [
        | inl e ↦ ap (λ n. length (cells_of (get_or ys n other))) e ∙ ap (λ c. length (cells_of c)) (get_or-set_same xs place column other inside) ∙ long
        | inr apart ↦ ap (λ c. length (cells_of c)) (get_or-set_other xs place number column other apart) ∙ filled.longer number other (omega (arith, apart, below))
      ];
      waiting = λ number other low within. ap (λ c. length (cells_of c)) (get_or-set_other xs place number column other (let apart : number ≢ place = omega (arith, low) in apart))
          ∙ filled.waiting number other (omega (arith, low)) (omega (arith, within, length-set xs place column));
      roomy = λ number other within some.
          let there : number < length xs = omega (arith, within, length-set xs place column) in
          omega (arith, filled.roomy number other there some, (first.each number other there).room);
      countable = filled.countable;
    }

    row_set : row_at (take (place + 1) (map cells_of ys)) rows ≡ row_at (take place (map cells_of xs)) rows ++ cell ∷ []
    row_set =
        ap (λ cs. row_at (take (place + 1) cs) rows) (map-set cells_of xs place column)
        ∙ ap (λ cs. row_at cs rows) (take_more_set (map cells_of xs) place (cells_of column) (omega (arith, length-map xs cells_of)))
        ∙ map_push (λ (c : List Datum). get_or c rows null) (take place (map cells_of xs)) (cells_of column)
        ∙ ap (λ d. row_at (take place (map cells_of xs)) rows ++ d ∷ []) (ap (λ c. get_or c rows null) got ∙ get_or_push cells cell null rows full)

    pub seen_set : chunk_view ys rows (place + 1) spare ≡ record (chunk_view xs rows begun spare) { unfinished = row_at (take place (map cells_of xs)) rows ++ cell ∷ [] }
    seen_set = same_view (maps_same type_of xs ys first.count (λ number other there. (first.each number other there).ty))
        (rows_same xs ys rows first.count (λ number other there. (first.each number other there).cells)) row_set refl
