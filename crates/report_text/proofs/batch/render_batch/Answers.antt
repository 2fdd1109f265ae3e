use Rattle.std.proofs.Common.{◌≡◌, ◌++◌, List, ℕ, map, ap, ◌∙◌, subst, sym}
use Rattle.std.specs.Prelude.{All, flat_map}
use Rattle.std.specs.List.{concat}
use Rattle.std.proofs.lemmas.Result.{IfOk-weaker}
use Rattle.report_text.specs.PrintableRows.{IsPrintableRow}
use Rattle.value_types.specs.Datum.{Datum}
use Rattle.report_text.specs.Lines.{row_line}
use Rattle.report_text.specs.Report.{batch_closing, found_lines}
use Rattle.report_text.proofs.Chunks.{printable_rows}
use Rattle.report_text.proofs.ReportTexts.{joined}
use Rattle.report_text.proofs.batch.render_batch.Goals as goal

pub new-rows-requires : goal.new-rows-requires
new-rows-requires g c =
    let s = c.args.sniffed.now in
    let batch = c.args.batch in
    subst (λ tys. All (IsPrintableRow tys) c.into_table.result.rows) (sym (c.into_table.ensures.types ∙ c.requires.types))
    (subst (All (IsPrintableRow s.types)) (sym c.into_table.ensures.rows) (printable_rows s.types batch.rows c.requires.rows c.requires.values))

pub returns : goal.returns
returns g c =
    let s = c.args.sniffed.now in
    let batch = c.args.batch in
    let found : List ℕ = found_lines s in
    let rows : List (List Datum) = batch.rows in
    let closing : List ℕ = batch_closing s batch c.args.store c.args.stats in
    let head : List ℕ = c.into_text.result.items in
    let tail : List ℕ = c.into_text-2.result.items in
    let head_is : head ≡ found = c.into_text.ensures ∙ c.in_ok-push_found.ensures ∙ ap (λ xs. xs ++ found) c.new-head.ensures in
    let tail_is : tail ≡ closing = c.into_text-2.ensures ∙ c.in_ok-push_batch_closing.ensures ∙ ap (λ xs. xs ++ closing) c.new-tail.ensures in
    let text_is = joined head found tail closing c.new-rows.result rows head_is (c.new-rows.ensures ∙ ap (map row_line) c.into_table.ensures.rows) tail_is in
    IfOk-weaker c.new.result (λ text. text ≡ head ++ (concat c.new-rows.result ++ tail)) (λ text. text ≡ (found ++ flat_map row_line rows) ++ closing) (λ text is. is ∙ text_is) c.new.ensures
