use Rattle.std.proofs.Common.{[], ◌∷◌, ◌++◌, codes}
use Rattle.std.specs.Fmt.{decimal}
use Rattle.std.proofs.lemmas.Result.{IfOk-equal}
use Rattle.csv_source.specs.Line.{line_of}
use Rattle.report_text.proofs.split.push_head.Goals as goal

pub returns : goal.returns
returns c =
    IfOk-equal c.push_line.result _ _ _ c.push_line.ensures
    (λ i. c.args.into.now.text ++ line_of (codes "head" ∷ decimal c.args.first.now.byte ∷ decimal (c.saturating_sub-lines.ensures i) ∷ []))
