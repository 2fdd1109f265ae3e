use Rattle.std.proofs.Common.{[], ◌∷◌, ◌++◌, ◌∙◌, ap}
use Rattle.std.proofs.lemmas.Result.{on_ok_weaker}
use Rattle.npz_writer.specs.RejectSheets.{cells_of}
use Rattle.npz_writer.proofs.rejects.push_reject.Goals as goal

pub returns-clause-rows : goal.returns-clause-rows
returns-clause-rows c =
    on_ok_weaker c.push_fields.result (λ out. out ∙ ap (λ fields. c.args.table.now.rows ++ cells_of fields ∷ []) c.fields-fields.ensures.value) c.push_fields.ensures.rows
