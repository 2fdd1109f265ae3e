use Rattle.std.proofs.Common.{◌≡◌, ◌∙◌, ◌++◌, List, ℕ, refl, sym, ap, map}
use Rattle.std.specs.Prelude.{Option, Some, None, option_map}
use Rattle.std.proofs.lemmas.Result.{on_ok_weaker}
use Rattle.value_types.specs.Datum.{text}
use Rattle.value_types.specs.Texts.{on_last}
use Rattle.value_types.proofs.OnLast.{on_last-map}
use Rattle.column_store.specs.ColumnCells.{cells_of}
use Rattle.column_store.specs.LongerText.{longer}
use Rattle.column_store.specs.Nullable.{datum_by, texts_or_null}
use Rattle.column_store.proofs.column.Column.extend_text.Goals as goal

longer_text : (more : List ℕ) (o : Option (List ℕ)) → datum_by text (option_map (λ t. t ++ more) o) ≡ longer more (datum_by text o)
longer_text more None = refl
longer_text more (Some t) = refl

pub returns-clause-ok : goal.returns-clause-ok
returns-clause-ok c =
    let more = c.args.more.now in
    on_ok_weaker c.extend_last.result (λ is.
    ap (map (datum_by text)) is
    ∙ on_last-map (datum_by text) (option_map (λ t. t ++ more)) (longer more) (longer_text more) (texts_or_null c.in-Varchar.column)
    ∙ ap (λ s. on_last (longer more) (cells_of s)) (sym c.in-Varchar.is)) c.extend_last.ensures.ok
