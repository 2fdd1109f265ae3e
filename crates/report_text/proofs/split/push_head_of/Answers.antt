use Rattle.std.proofs.Common.{List, ℕ, ◌++◌, ap, ◌∙◌}
use Rattle.std.proofs.lemmas.Result.{on_ok_weaker}
use Rattle.part_cuts.specs.Part.{parts}
use Rattle.report_text.proofs.SplitParts.{head_before}
use Rattle.report_text.proofs.split.push_head_of.Goals as goal

pub returns : goal.returns
returns c =
    let before : List ℕ = c.args.into.now.text in
    let cuts = c.args.cuts.now in
    on_ok_weaker c.push_head.result (λ is. is ∙ ap (λ xs. before ++ xs) (head_before (parts cuts.starts cuts.tally) c.part.result c.part.ensures)) c.push_head.ensures
