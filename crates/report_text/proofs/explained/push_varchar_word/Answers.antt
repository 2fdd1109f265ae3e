use Rattle.std.proofs.Common.{ℕ, List, ◌++◌, ap, ◌∙◌, append_assoc, codes}
use Rattle.std.proofs.lemmas.Result.{on_ok_weaker}
use Rattle.csv_source.specs.Shown.{shown}
use Rattle.report_text.proofs.explained.push_varchar_word.Goals as goal

pub returns : goal.returns
returns c =
    let before : List ℕ = c.args.into.now.text in
    let front : List ℕ = codes "column_types=" in
    let name : List ℕ = shown c.args.name.now in
    let behind : List ℕ = codes ":VARCHAR" in
    on_ok_weaker c.push_plain-2.result
    (λ is. is ∙ ap (λ xs. xs ++ behind) (c.in_ok-push_shown.ensures ∙ ap (λ xs. xs ++ name) c.in_ok-push_plain.ensures)
    ∙ append_assoc (before ++ front) name behind ∙ append_assoc before front (name ++ behind))
    c.push_plain-2.ensures
