-- The last cell of the row under way is changed.
use Rattle.std.proofs.Common.{◌≡◌, ℕ, ◌+◌, ◌-◌, ◌<◌, ◌≤◌, refl, sym, ap, ◌∙◌, subst, arith, List, [], ◌∷◌, ◌++◌, length, get_or, set, take, map}
use Rattle.std.proofs.lemmas.List.{length-map, length-take, get_or-map, map_push, take_more}
use Rattle.value_types.specs.Datum.{Datum, null}
use Rattle.value_types.specs.Texts.{on_last}
use Rattle.value_types.specs.Views.{row_at}
use Rattle.value_types.proofs.OnLast.{on_last-push, on_last-take}
use Rattle.column_store.specs.ChunkView.{ChunkView, chunk_view}
use Rattle.column_store.specs.declared.column.Column.{Column}
use Rattle.column_store.specs.ColumnCells.{cells_of, room_of, type_of}
use Rattle.column_store.specs.IsFilled.{IsFilled}
use Rattle.column_store.proofs.Filled.{begun_seen}
use Rattle.column_store.proofs.SetColumn.{filled_set, seen_as_before, seen_set}

module _ {xs : List Column} {rows begun spare : ℕ} (filled : IsFilled xs rows begun spare) {view : ChunkView} (seen : chunk_view xs rows begun spare ≡ view) (some : 0 < length view.unfinished)
    {was : Column} (at : was ≡ get_or xs (begun - 1) was) (column : Column) (ty : type_of column ≡ type_of was) (room : room_of was ≤ room_of column) where
  abbrev place : ℕ
  place = begun - 1

  last : begun ≡ place + 1
  last = omega (arith, some, begun_seen filled seen)

  inside : place < length xs
  inside = omega (arith, last, filled.within)

  -- ---- it has the same cells

  pub last_still : cells_of column ≡ cells_of was → chunk_view (set xs place column) rows begun spare ≡ view
  last_still same = seen_as_before xs place inside at column ty room same rows begun spare ∙ seen

  -- ---- its last cell is changed

  module _ (change : Datum → Datum) (got : cells_of column ≡ on_last change (cells_of was)) where
    full : length (cells_of was) ≡ rows + 1
    full = ap (λ k. length (cells_of k)) at ∙ filled.longer place was (omega (arith, last))

    abbrev front : List Datum
    front = take rows (cells_of was)

    front_long : length front ≡ rows
    front_long = omega (arith, length-take rows (cells_of was), full)

    abbrev cell : Datum
    cell = get_or (cells_of was) rows null

    parts : cells_of column ≡ front ++ change cell ∷ []
    parts = got ∙ on_last-take change (cells_of was) rows null full

    abbrev before : List Datum
    before = row_at (take place (map cells_of xs)) rows

    old_row : row_at (take begun (map cells_of xs)) rows ≡ before ++ cell ∷ []
    old_row =
        ap (λ n. row_at (take n (map cells_of xs)) rows) last
        ∙ ap (λ cs. row_at cs rows) (take_more (map cells_of xs) place (cells_of was) (omega (arith, inside, length-map xs cells_of)))
        ∙ map_push (λ (c : List Datum). get_or c rows null) (take place (map cells_of xs)) (get_or (map cells_of xs) place (cells_of was))
        ∙ ap (λ c. before ++ get_or c rows null ∷ []) (get_or-map cells_of xs place was (cells_of was) inside ∙ ap cells_of (sym at))

    pub last_filled : IsFilled (set xs place column) rows begun spare
    last_filled = subst (λ n. IsFilled (set xs place column) rows n spare) (sym last)
        (filled_set xs place inside at column ty room rows begun spare filled (omega arith) (omega (arith, last)) front (change cell) refl front_long parts)

    pub last_changed : chunk_view (set xs place column) rows begun spare ≡ record view { unfinished = on_last change view.unfinished }
    last_changed =
        ap (λ n. chunk_view (set xs place column) rows n spare) last
        ∙ seen_set xs place inside at column ty room rows begun spare filled (omega arith) (omega (arith, last)) front (change cell) refl front_long parts
        ∙ (λ i. record (chunk_view xs rows begun spare) { unfinished = (sym (on_last-push change before cell) ∙ ap (on_last change) (sym old_row)) i })
        ∙ (λ i. record (seen i) { unfinished = on_last change (seen i).unfinished })
