use Rattle.std.proofs.Common.{List, ℕ, [], ◌∷◌, ◌++◌, take, ap, sym, ◌∙◌, append_assoc}
use Rattle.std.specs.Prelude.{flat_map}
use Rattle.csv_source.specs.Shown.{shown}
use Rattle.report_text.specs.SplitLines.{further_word}
use Rattle.report_text.proofs.Texts.{flat_map-take_more}
use Rattle.report_text.proofs.split.push_further_words.Goals as goal

pub loop-place-preserved : goal.loop-place-preserved
loop-place-preserved c =
    let before : List ℕ = c.args.into.now.text in
    let words : List (List ℕ) = c.args.words.now in
    let word : List ℕ = c.get.result.now in
    let front : List ℕ = flat_map further_word (take c.loop-place.place words) in
    c.in_ok-push_shown.ensures ∙ ap (λ xs. xs ++ shown word) (c.in_ok-push.ensures.ok ∙ ap (λ xs. xs ++ 124 ∷ []) c.loop-place.invariant)
    ∙ append_assoc (before ++ front) (124 ∷ []) (shown word) ∙ append_assoc before front (124 ∷ shown word)
    ∙ ap (λ xs. before ++ xs) (sym (flat_map-take_more further_word words c.loop-place.place word c.get.ensures))
