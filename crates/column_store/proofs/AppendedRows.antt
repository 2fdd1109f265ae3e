-- The columns of a chunk behind which those of another one are put.
use Rattle.std.proofs.Common.{◌≡◌, ℕ, ◌+◌, ◌-◌, ◌^◌, ◌<◌, sym, ap, ◌∙◌, arith, List, [], ◌++◌, length, get_or, take, map}
use Rattle.std.specs.Prelude.{All}
use Rattle.std.proofs.lemmas.List.{length-append, get_or_default}
use Rattle.value_types.specs.Views.{row_at}
use Rattle.column_store.specs.ChunkView.{ChunkView, chunk_view}
use Rattle.column_store.specs.declared.column.Column.{Column}
use Rattle.column_store.specs.ColumnCells.{cells_of, type_of}
use Rattle.column_store.specs.ColumnChanges.{EachColumn, IsAppended}
use Rattle.column_store.specs.IsFilled.{IsFilled}
use Rattle.column_store.specs.RowsOfColumns.{rows_of}
use Rattle.column_store.proofs.Rows.{joined_rows, maps_same}
use Rattle.column_store.proofs.Filled.{begun_seen, columns_seen, rows_seen, same_view}

-- no row is under way
module _ {xs : List Column} {rows begun spare : ℕ} (filled : IsFilled xs rows begun spare) {view : ChunkView} (seen : chunk_view xs rows begun spare ≡ view) (whole : view.unfinished ≡ []) where
  none_begun : begun ≡ 0
  none_begun = begun_seen filled seen ∙ ap length whole

  pub all_full : All (λ column. length (cells_of column) ≡ rows) xs
  all_full number other inside = filled.waiting number other (omega (arith, none_begun)) inside

module _ {xs : List Column} {rows begun spare : ℕ} (filled : IsFilled xs rows begun spare) {view : ChunkView} (seen : chunk_view xs rows begun spare ≡ view) (whole : view.unfinished ≡ [])
    {os : List Column} {more other_begun other_spare : ℕ} (other_filled : IsFilled os more other_begun other_spare) {other_view : ChunkView} (other_seen : chunk_view os more other_begun other_spare ≡ other_view) (other_whole : other_view.unfinished ≡ [])
    (types : view.types ≡ other_view.types) (ys : List Column) (appended : EachColumn (IsAppended os) xs ys) (total left : ℕ) (is : total ≡ rows + more) (left_is : left ≡ spare - more) where
  twins : length xs ≡ length os
  twins = columns_seen filled seen ∙ ap length types ∙ sym (columns_seen other_filled other_seen)

  cells_appended : (number : ℕ) (other : Column) → number < length xs → cells_of (get_or ys number other) ≡ cells_of (get_or xs number other) ++ cells_of (get_or os number other)
  cells_appended number other inside =
      (appended.each number other inside).cells ∙ ap (λ o. cells_of (get_or xs number other) ++ cells_of o) (get_or_default os number (get_or xs number other) other (omega (arith, twins, inside)))

  length_appended : (number : ℕ) (other : Column) → number < length xs → length (cells_of (get_or ys number other)) ≡ total
  length_appended number other inside =
      ap length (cells_appended number other inside) ∙ length-append (cells_of (get_or xs number other)) (cells_of (get_or os number other))
      ∙ (omega (arith, is, all_full filled seen whole number other inside, all_full other_filled other_seen other_whole number other (omega (arith, twins, inside))))

  pub filled_appended : total < 2 ^ 64 → IsFilled ys total begun left
  filled_appended fits = record {
    within = omega (arith, none_begun filled seen whole);
    longer = λ number other below. absurd (let no : ⊥ = omega (arith, below, none_begun filled seen whole) in no);
    waiting = λ number other low within. length_appended number other (omega (arith, appended.count, within));
    roomy = λ number other within some.
        let inside : number < length xs = omega (arith, appended.count, within) in
        omega (arith, is, left_is, some, filled.roomy number other inside (omega (arith, left_is, some)), (appended.each number other inside).keeps.room);
    countable = omega (arith, is, left_is, fits, filled.countable);
  }

  pub seen_appended : chunk_view ys total begun left ≡ record view { rows = view.rows ++ other_view.rows; spare = view.spare - length other_view.rows }
  seen_appended = same_view
      (maps_same type_of xs ys appended.count (λ number other inside. (appended.each number other inside).keeps.ty) ∙ (λ i. (seen i).types))
      ((λ i. rows_of (map cells_of ys) (is i)) ∙ joined_rows xs os ys rows more (all_full filled seen whole) twins appended.count cells_appended ∙ (λ i. (seen i).rows ++ (other_seen i).rows))
      (ap (λ b. row_at (take b (map cells_of ys)) total) (none_begun filled seen whole) ∙ sym whole)
      (left_is ∙ (λ i. (seen i).spare - rows_seen other_filled other_seen i))
