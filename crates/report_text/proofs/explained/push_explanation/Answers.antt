use Rattle.std.proofs.Common.{ℕ, List, ◌++◌, ap, ◌∙◌, append_assoc}
use Rattle.std.specs.Prelude.{flat_map}
use Rattle.std.proofs.lemmas.Result.{on_ok_weaker}
use Rattle.report_text.specs.ExplainedLines.{candidate_line, hint_line, why_line, words_line}
use Rattle.report_text.proofs.explained.push_explanation.Goals as goal

pub returns : goal.returns
returns c =
    let before : List ℕ = c.args.into.now.text in
    let e = c.args.explanation.now in
    let first : List ℕ = flat_map candidate_line e.candidates in
    let second : List ℕ = words_line e.fixes_types c.args.sniffed.now in
    let third : List ℕ = flat_map why_line e.whys in
    let fourth : List ℕ = flat_map hint_line e.hints in
    on_ok_weaker c.push_hints.result
    (λ is. is
    ∙ (λ i. c.in_ok-push_whys.ensures i ++ flat_map hint_line (c.hints.ensures i))
    ∙ (λ i. (c.in_ok-push_words.ensures i ++ flat_map why_line (c.whys.ensures i)) ++ fourth)
    ∙ (λ i. ((c.in_ok-push_candidates.ensures i ++ words_line (c.fixes_types.ensures i) c.args.sniffed.now) ++ third) ++ fourth)
    ∙ (λ i. (((before ++ flat_map candidate_line (c.candidates.ensures i)) ++ second) ++ third) ++ fourth)
    ∙ ap (λ xs. (xs ++ third) ++ fourth) (append_assoc before first second)
    ∙ ap (λ xs. xs ++ fourth) (append_assoc before (first ++ second) third)
    ∙ append_assoc before ((first ++ second) ++ third) fourth)
    c.push_hints.ensures
