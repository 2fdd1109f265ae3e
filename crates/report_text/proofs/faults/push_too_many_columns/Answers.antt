use Rattle.std.proofs.Common.{ℕ, List, ◌++◌, ◌∷◌, [], ap, sym, ◌∙◌, append_assoc, codes}
use Rattle.std.specs.Fmt.{decimal}
use Rattle.std.proofs.lemmas.Result.{on_ok_weaker}
use Rattle.report_text.proofs.faults.push_too_many_columns.Goals as goal

pub returns : goal.returns
returns c =
    let before : List ℕ = c.args.into.now.text in
    let number : List ℕ = decimal c.args.limit in
    let front : List ℕ = codes "fault|more than " in
    let behind : List ℕ = codes " columns" in
    on_ok_weaker c.push_plain-2.result
    (λ is. is
    ∙ ap (λ xs. xs ++ (behind ++ 10 ∷ [])) (c.in_ok-push_number.ensures ∙ ap (λ xs. xs ++ number) (c.in_ok-push_plain.ensures))
    ∙ append_assoc (before ++ front) number (behind ++ 10 ∷ [])
    ∙ append_assoc before front (number ++ (behind ++ 10 ∷ []))
    ∙ ap (λ xs. before ++ (front ++ xs)) (sym (append_assoc number behind (10 ∷ []))))
    c.push_plain-2.ensures
