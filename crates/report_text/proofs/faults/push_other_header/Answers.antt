use Rattle.std.proofs.Common.{ℕ, List, ◌++◌, ◌∷◌, [], ap, ◌∙◌, append_assoc, codes}
use Rattle.std.proofs.lemmas.Result.{on_ok_weaker}
use Rattle.csv_source.specs.Shown.{shown}
use Rattle.report_text.proofs.faults.push_other_header.Goals as goal

pub returns : goal.returns
returns c =
    let before : List ℕ = c.args.into.now.text in
    let name : List ℕ = shown c.args.file.now in
    let front : List ℕ = codes "fault|other header in " in
    on_ok_weaker c.push_plain-2.result
    (λ is. is
    ∙ ap (λ xs. xs ++ 10 ∷ []) (c.in_ok-push_shown.ensures ∙ ap (λ xs. xs ++ name) c.in_ok-push_plain.ensures)
    ∙ append_assoc (before ++ front) name (10 ∷ [])
    ∙ append_assoc before front (name ++ 10 ∷ []))
    c.push_plain-2.ensures
