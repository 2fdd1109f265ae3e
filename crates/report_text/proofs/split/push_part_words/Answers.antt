use Rattle.std.proofs.Common.{List, ℕ, true, [], ◌∷◌, ◌++◌, drop, map, ap, sym, ◌∙◌, append_assoc, codes}
use Rattle.std.specs.Prelude.{flat_map}
use Rattle.std.proofs.lemmas.Result.{on_ok_weaker}
use Rattle.csv_source.specs.Shown.{shown}
use Rattle.report_text.specs.ExplainedLines.{fixing_words}
use Rattle.report_text.specs.Part.{front_of}
use Rattle.report_text.specs.SplitLines.{further_word}
use Rattle.report_text.proofs.Texts.{join-more}
use Rattle.report_text.proofs.split.push_part_words.Goals as goal

pub returns : goal.returns
returns c =
    let before : List ℕ = c.args.into.now.text in
    let further : List (List ℕ) = c.args.further.now in
    let fixing : List (List ℕ) = fixing_words true c.args.sniffed.now in
    let behind : List ℕ = flat_map further_word further in
    on_ok_weaker c.push.result
    (λ is. is
    ∙ ap (λ xs. xs ++ 10 ∷ [])
    (c.in_ok-push_further_words.ensures ∙ ap (λ xs. xs ++ behind) c.in_ok-push_words_with.ensures ∙ append_assoc before (front_of fixing) behind
    ∙ ap (λ xs. before ++ xs) (sym (join-more 124 shown (codes "words") (drop 1 fixing) further)))
    ∙ append_assoc before (front_of (fixing ++ map shown further)) (10 ∷ []))
    c.push.ensures.ok
