use Rattle.std.proofs.Common.{◌++◌, ap, sym, ◌∙◌, append_assoc}
use Rattle.report_text.specs.Lines.{error_line}
use Rattle.report_text.proofs.Texts.{flat_map-take_more}
use Rattle.report_text.proofs.rejects.push_stored.Goals as goal

pub loop-index-preserved : goal.loop-index-preserved
loop-index-preserved c =
    let before = c.args.into.now.text in
    c.in_ok-push_reject.ensures ∙ ap (λ xs. xs ++ error_line c.get.result.now) c.loop-index.invariant
    ∙ append_assoc before _ _ ∙ ap (λ xs. before ++ xs) (sym (flat_map-take_more error_line c.args.book.now.stored c.loop-index.index c.get.result.now c.get.ensures))
