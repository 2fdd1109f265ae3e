use Rattle.std.proofs.Common.{◌≡◌, ◌∙◌, Bool, List, length, take, ap, refl, sym}
use Rattle.std.specs.List.{list_any}
use Rattle.value_types.specs.Views.{nulls_in}
use Rattle.npz_writer.specs.Arrays.{is_null}
use Rattle.npz_writer.proofs.NullMarks.{any_set, null_in_view, take_least}
use Rattle.npz_writer.proofs.columns.chunk_has_null.Goals as goal

pub returns : goal.returns
returns c =
    let nulls : List Bool = c.nulls-nulls.result.now in
    let marks : take c.min.result nulls ≡ take (length c.args.chunk.now.rows) (nulls_in c.view.result) =
    take_least nulls c.min.result c.rows.result c.min.ensures ∙ (λ i. take (c.rows.ensures i) (c.nulls-nulls.ensures i)) in
    any_set _ (take c.min.result nulls) c.contains.result c.contains.ensures.value refl refl
    ∙ ap (list_any (λ (mark : Bool). mark)) marks
    ∙ sym (null_in_view c.view.result (length c.args.chunk.now.rows) c.view.ensures.long)
    ∙ ap (list_any is_null) c.view.ensures.cells
