use Rattle.std.proofs.Common.{◌≡◌, ◌∷◌, [], ◌++◌, ◌%◌, ◌==◌, ℕ, List, rules, ap, ◌∙◌, append_assoc}
use Rattle.std.specs.List.{join_with_byte}
use Rattle.std.proofs.lemmas.Result.{on_ok_weaker}
use Rattle.std.specs.Fmt.{decimal}
use Rattle.value_types.specs.ValueText.{truth_text}
use Rattle.report_text.specs.MadeText.{made_day, made_note}
use Rattle.report_text.proofs.made.push_row.Goals as goal

-- four fields that were appended one after another
joined : (before a b c d t1 t2 t3 t4 t5 t6 t7 t8 : List ℕ) →
    t1 ≡ before ++ a → t2 ≡ t1 ++ 44 ∷ [] → t3 ≡ t2 ++ b → t4 ≡ t3 ++ 44 ∷ [] → t5 ≡ t4 ++ c → t6 ≡ t5 ++ 44 ∷ [] → t7 ≡ t6 ++ d → t8 ≡ t7 ++ 10 ∷ [] →
    t8 ≡ before ++ (join_with_byte 44 (a ∷ b ∷ c ∷ d ∷ []) ++ 10 ∷ [])
joined before a b c d t1 t2 t3 t4 t5 t6 t7 t8 e1 e2 e3 e4 e5 e6 e7 e8 = search (rules, append_assoc, e1, e2, e3, e4, e5, e6, e7, e8)

pub returns : goal.returns
returns c =
    let before : List ℕ = c.args.into.now.text in
    let row : ℕ = c.args.row in
    on_ok_weaker c.push-4.result (λ is. joined before _ _ _ _ _ _ _ _ _ _ _ _
    c.in_ok-push_number.ensures c.in_ok-push.ensures.ok (c.in_ok-append.ensures.ok ∙ ap (λ b. c.push.new.self.text ++ b) c.truth_text.ensures) c.in_ok-push-2.ensures.ok
    c.in_ok-push_day.ensures c.in_ok-push-3.ensures.ok c.in_ok-push_note.ensures is
    ∙ ap (λ x. before ++ (join_with_byte 44 (decimal row ∷ truth_text (x % 2 == 1) ∷ made_day x ∷ made_note row x ∷ []) ++ 10 ∷ [])) c.row_number-x.ensures.value) c.push-4.ensures.ok
