use Rattle.std.proofs.Common.{ap, ◌∙◌}
use Rattle.std.specs.Prelude.{option_map}
use Rattle.std.proofs.lemmas.Result.{IfOk-weaker}
use Rattle.npz_writer.specs.Members.{arrays}
use Rattle.loader_reply.specs.ArrayFiles.{files_if_stored}
use Rattle.loader_reply.proofs.loader.Loader.arrays_text.Goals as goal

pub returns : goal.returns
returns g c =
    let store = c.args.self.now.options.now.store_rejects in
    let written = option_map (λ files. files.now) c.findings_of-findings.result.files in
    let files = c.findings_of-findings.ensures.files ∙ ap (files_if_stored store) (c.as_slice.ensures.value ∙ c.into_parts-table.ensures.files) in
    IfOk-weaker c.arrays_of.result _ _ (λ text is.
    is
    ∙ ap (λ s. arrays s c.into_parts-table.result.0.rows written) c.findings_of-findings.ensures.sniffed
    ∙ ap (λ rows. arrays c.args.sniffed.now rows written) c.into_parts-table.ensures.rows
    ∙ ap (arrays c.args.sniffed.now c.args.batch.rows) files) c.arrays_of.ensures
