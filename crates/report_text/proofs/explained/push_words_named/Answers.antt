use Rattle.std.proofs.Common.{[], ◌∷◌, ◌++◌, Some, codes}
use Rattle.std.proofs.lemmas.Result.{IfOk-equal}
use Rattle.csv_source.specs.Shown.{shown_option}
use Rattle.report_text.specs.Part.{front_of}
use Rattle.report_text.proofs.explained.push_words_named.Goals as goal

pub returns : goal.returns
returns c =
    IfOk-equal c.push_front.result _ _ _ c.push_front.ensures
    (λ i. c.args.into.now.text ++ front_of
    (codes "words"
    ∷ (codes "delim=" ++ shown_option (Some (c.delim.ensures i)))
    ∷ (codes "quote=" ++ shown_option (c.quote.ensures.value i))
    ∷ (codes "escape=" ++ shown_option (c.escape.ensures i))
    ∷ (codes "header=" ++ c.truth_text.ensures i)
    ∷ (codes "types=" ++ c.requires.named i)
    ∷ []))
