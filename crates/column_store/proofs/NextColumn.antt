-- The next column of a chunk grew by a cell, so the row under way did; or it got memory alone, and nothing is seen of it.
use Rattle.std.proofs.Common.{◌≡◌, ℕ, ◌+◌, ◌<◌, ◌≤◌, refl, sym, ap, ◌∙◌, arith, List, [], ◌∷◌, ◌++◌, length, get_or, set, take, map, true, false, Option, Some, None, is_some, append-nil}
use Rattle.std.specs.Prelude.{slice_get}
use Rattle.std.specs.Option.{option_and_then, option_to_list}
use Rattle.std.proofs.lemmas.Bool.{false≢true}
use Rattle.std.proofs.lemmas.List.{length-map, get_or-map, take_all}
use Rattle.std.proofs.lemmas.Option.{slice_get-get_or}
use Rattle.value_types.specs.Datum.{Datum}
use Rattle.value_types.specs.OfType.{typed_cell}
use Rattle.column_store.specs.ChunkView.{ChunkView, chunk_view}
use Rattle.column_store.specs.declared.column.Column.{Column}
use Rattle.column_store.specs.ColumnCells.{cells_of, room_of, type_of}
use Rattle.column_store.specs.IsFilled.{IsFilled}
use Rattle.column_store.specs.NextCell.{spelled_cell}
use Rattle.column_store.proofs.Filled.{begun_seen, columns_seen}
use Rattle.column_store.proofs.SetColumn.{filled_set, seen_as_before, seen_set}

-- a cell that is there, and one that isn't
one_more : (o : Option Datum) → true ≡ is_some o → (cell : Datum) × (option_to_list o ≡ cell ∷ [])
one_more None there = absurd (false≢true (sym there))
one_more (Some cell) there = (cell, refl)

none_more : (o : Option Datum) → false ≡ is_some o → option_to_list o ≡ []
none_more None there = refl
none_more (Some cell) there = absurd (false≢true there)

module _ {xs : List Column} {rows begun spare : ℕ} (filled : IsFilled xs rows begun spare) {view : ChunkView} (seen : chunk_view xs rows begun spare ≡ view)
    (next : length view.unfinished < length view.types) {was : Column} (at : was ≡ get_or xs begun was) where
  inside : begun < length xs
  inside = omega (arith, begun_seen filled seen, columns_seen filled seen, next)

  pub next_type : slice_get view.types (length view.unfinished) ≡ Some (type_of was)
  next_type =
      (λ i. slice_get (sym seen i).types (sym (begun_seen filled seen) i))
      ∙ slice_get-get_or (map type_of xs) begun (type_of was) (omega (arith, inside, length-map xs type_of))
      ∙ ap Some (get_or-map type_of xs begun was (type_of was) inside ∙ ap type_of (sym at))

  pub spelled_is : (text : List ℕ) → spelled_cell view text ≡ typed_cell text (type_of was)
  spelled_is text = ap (option_and_then (typed_cell text)) next_type

  module _ (column : Column) (ty : type_of column ≡ type_of was) (room : room_of was ≤ room_of column) where
    -- ---- it has the same cells

    pub seen_still : cells_of column ≡ cells_of was → chunk_view (set xs begun column) rows begun spare ≡ view
    seen_still same = seen_as_before xs begun inside at column ty room same rows begun spare ∙ seen

    -- ---- it has one more

    module _ (cell : Datum) (got : cells_of column ≡ cells_of was ++ cell ∷ []) where
      full : length (cells_of was) ≡ rows
      full = ap (λ k. length (cells_of k)) at ∙ filled.waiting begun was (omega arith) inside

      kept : take rows (cells_of was) ≡ cells_of was
      kept = take_all rows (cells_of was) (omega (arith, full))

      pub filled_more : IsFilled (set xs begun column) rows (begun + 1) spare
      filled_more = filled_set xs begun inside at column ty room rows begun spare filled (omega arith) (omega arith) (cells_of was) cell kept full got

      pub seen_more : chunk_view (set xs begun column) rows (begun + 1) spare ≡ record view { unfinished = view.unfinished ++ cell ∷ [] }
      seen_more =
          seen_set xs begun inside at column ty room rows begun spare filled (omega arith) (omega arith) (cells_of was) cell kept full got
          ∙ (λ i. record (seen i) { unfinished = (seen i).unfinished ++ cell ∷ [] })

    -- ---- it has the cell that a text spells, if it spells one

    module _ (text : List ℕ) (got : cells_of column ≡ cells_of was ++ option_to_list (typed_cell text (type_of was))) where
      as_spelled : record view { unfinished = view.unfinished ++ option_to_list (typed_cell text (type_of was)) } ≡ record view { unfinished = view.unfinished ++ option_to_list (spelled_cell view text) }
      as_spelled = λ i. record view { unfinished = view.unfinished ++ option_to_list (sym (spelled_is text) i) }

      pub seen_spelled : true ≡ is_some (typed_cell text (type_of was)) → chunk_view (set xs begun column) rows (begun + 1) spare ≡ record view { unfinished = view.unfinished ++ option_to_list (spelled_cell view text) }
      seen_spelled there =
          let one = one_more (typed_cell text (type_of was)) there in
          seen_more one.0 (got ∙ ap (λ more. cells_of was ++ more) one.1) ∙ (λ i. record view { unfinished = view.unfinished ++ sym one.1 i }) ∙ as_spelled

      pub seen_none : false ≡ is_some (typed_cell text (type_of was)) → chunk_view (set xs begun column) rows begun spare ≡ record view { unfinished = view.unfinished ++ option_to_list (spelled_cell view text) }
      seen_none there =
          let none = none_more (typed_cell text (type_of was)) there in
          seen_still (got ∙ ap (λ more. cells_of was ++ more) none ∙ append-nil (cells_of was))
          ∙ (λ i. record view { unfinished = sym (append-nil view.unfinished) i }) ∙ (λ i. record view { unfinished = view.unfinished ++ sym none i }) ∙ as_spelled
