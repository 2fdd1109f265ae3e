-- A text is pushed run by run.
use Rattle.std.proofs.Common.{◌≡◌, ℕ, List, [], ◌∷◌, ◌++◌, ◌∙◌, ap}
use Rattle.value_types.specs.Datum.{Datum, text}
use Rattle.value_types.specs.Texts.{on_last}
use Rattle.value_types.proofs.OnLast.{on_last-push}
use Rattle.column_store.specs.ChunkView.{ChunkView}
use Rattle.column_store.specs.LongerText.{longer}
use Rattle.range_scan.specs.declared.context.Context.{Context}
use Rattle.range_scan.proofs.TextFields.{HasText}

-- the text of the field up to a place is under way
pub record TextPushed (context : Context) (bytes : List ℕ) (from first at : ℕ) (old new : ChunkView) : Type 0 where
  pub value : List ℕ
  pub pushed : new ≡ record old { unfinished = old.unfinished ++ text value ∷ [] }
  pub has : HasText context.dialect bytes from first at value

module _ (old new : ChunkView) (value : List ℕ) (pushed : new ≡ record old { unfinished = old.unfinished ++ text value ∷ [] }) where
  pub longer_by : (more : List ℕ) (longest : ChunkView) → longest ≡ record new { unfinished = on_last (longer more) new.unfinished } →
      longest ≡ record old { unfinished = old.unfinished ++ text (value ++ more) ∷ [] }
  longer_by more longest is =
      is ∙ (λ i. record (pushed i) { unfinished = on_last (longer more) (pushed i).unfinished })
      ∙ ap (λ (cells : List Datum). record old { unfinished = cells }) (on_last-push (longer more) old.unfinished (text value))
