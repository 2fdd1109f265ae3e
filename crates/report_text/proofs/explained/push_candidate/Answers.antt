use Rattle.std.proofs.Common.{[], ◌∷◌, ◌++◌, Some, codes}
use Rattle.std.specs.Fmt.{decimal}
use Rattle.std.proofs.lemmas.Result.{IfOk-equal}
use Rattle.csv_source.specs.Line.{line_of}
use Rattle.csv_source.specs.Shown.{shown_option}
use Rattle.report_text.proofs.explained.push_candidate.Goals as goal

pub returns : goal.returns
returns c =
    let candidate = c.args.candidate.now in
    IfOk-equal c.push_line.result _ _ _ c.push_line.ensures
    (λ i. c.args.into.now.text ++ line_of
    (codes "candidate"
    ∷ decimal candidate.place
    ∷ shown_option (Some (c.delim.ensures i))
    ∷ shown_option (c.quote.ensures.value i)
    ∷ shown_option (c.escape.ensures i)
    ∷ decimal candidate.score.rows
    ∷ decimal candidate.score.mode
    ∷ decimal candidate.score.agree
    ∷ decimal candidate.score.closed
    ∷ decimal candidate.score.flawed
    ∷ []))
