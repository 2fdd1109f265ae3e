use Rattle.std.proofs.Common.{◌++◌, ap, sym, ◌∙◌, append_assoc, append-nil}
use Rattle.std.proofs.lemmas.Result.{IfOk-equal}
use Rattle.report_text.specs.Report.{closing_lines, found_lines}
use Rattle.report_text.proofs.loaded.push_summary.Goals as goal

pub returns : goal.returns
returns c =
    let loaded = c.args.loaded.now in
    let found = found_lines loaded.sniffed in
    let closing = closing_lines loaded c.args.taps.now in
    let before = c.args.into.now.text in
    IfOk-equal c.push_closing.result _ _ _ c.push_closing.ensures
    (ap (λ xs. xs ++ closing) c.in_ok-push_found.ensures ∙ append_assoc before found closing ∙ ap (λ xs. before ++ (xs ++ closing)) (sym (append-nil found)))
