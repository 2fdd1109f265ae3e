use Rattle.std.proofs.Common.{◌≡◌, ◌++◌, List, ℕ, sym, subst}
use Rattle.std.specs.Prelude.{OnOk}
use Rattle.report_text.specs.declared.outcome.Outcome.{Outcome}
use Rattle.report_text.specs.Report.{report_of}
use Rattle.report_text.proofs.text.push_short.Goals as goal

pub returns-in-Explained : goal.returns-in-Explained
returns-in-Explained c =
    let before : List ℕ = c.args.into.now.text in
    let after : List ℕ = c.push_explained.new.into.text in
    subst (λ (o : Outcome). OnOk c.push_explained.result (after ≡ before ++ report_of o)) (sym c.in-Explained.is) c.push_explained.ensures

pub returns-in-Split : goal.returns-in-Split
returns-in-Split c =
    let before : List ℕ = c.args.into.now.text in
    let after : List ℕ = c.push_parts.new.into.text in
    subst (λ (o : Outcome). OnOk c.push_parts.result (after ≡ before ++ report_of o)) (sym c.in-Split.is) c.push_parts.ensures
