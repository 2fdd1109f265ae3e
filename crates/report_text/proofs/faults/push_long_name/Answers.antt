use Rattle.std.proofs.Common.{ℕ, List, ◌++◌, ◌∷◌, [], ap, sym, ◌∙◌, append_assoc, codes}
use Rattle.std.specs.Fmt.{decimal}
use Rattle.std.proofs.lemmas.Result.{on_ok_weaker}
use Rattle.report_text.proofs.faults.push_long_name.Goals as goal

pub returns : goal.returns
returns c =
    let before : List ℕ = c.args.into.now.text in
    let column : List ℕ = decimal c.args.column in
    let most : List ℕ = decimal c.args.most in
    let front : List ℕ = codes "fault|name of column " in
    let middle : List ℕ = codes " longer than " in
    let behind : List ℕ = codes " bytes" in
    on_ok_weaker c.push_plain-3.result
    (λ is. is
    ∙ ap (λ xs. xs ++ (behind ++ 10 ∷ [])) (c.in_ok-push_number-2.ensures ∙ ap (λ xs. xs ++ most) (c.in_ok-push_plain-2.ensures
    ∙ ap (λ xs. xs ++ middle) (c.in_ok-push_number.ensures ∙ ap (λ xs. xs ++ column) (c.in_ok-push_plain.ensures))))
    ∙ append_assoc (((before ++ front) ++ column) ++ middle) most (behind ++ 10 ∷ [])
    ∙ append_assoc ((before ++ front) ++ column) middle (most ++ (behind ++ 10 ∷ []))
    ∙ append_assoc (before ++ front) column (middle ++ (most ++ (behind ++ 10 ∷ [])))
    ∙ append_assoc before front (column ++ (middle ++ (most ++ (behind ++ 10 ∷ []))))
    ∙ ap (λ xs. before ++ (front ++ xs)) (sym (append_assoc (column ++ middle ++ most) behind (10 ∷ [])
    ∙ append_assoc (column ++ middle) most (behind ++ 10 ∷ []) ∙ append_assoc column middle (most ++ (behind ++ 10 ∷ [])))))
    c.push_plain-3.ensures
