use Rattle.std.proofs.Common.{◌≡◌, ◌++◌, List, [], ℕ, map, ap, ◌∙◌, subst, sym}
use Rattle.std.specs.Prelude.{All, flat_map}
use Rattle.std.specs.List.{concat}
use Rattle.std.proofs.lemmas.Result.{IfOk-weaker}
use Rattle.value_types.specs.Datum.{Datum}
use Rattle.report_text.specs.Lines.{row_line}
use Rattle.report_text.specs.Report.{closing_lines, found_lines}
use Rattle.report_text.specs.PrintableRows.{IsPrintableRow}
use Rattle.report_text.proofs.Chunks.{printable_rows}
use Rattle.report_text.proofs.ReportTexts.{joined}
use Rattle.report_text.proofs.loaded.render_loaded.Goals as goal

pub new-rows-requires : goal.new-rows-requires
new-rows-requires g c =
    let loaded = c.args.loaded in
    subst (λ table. All (IsPrintableRow table.types) table.rows) (sym c.into_table.ensures)
    (subst (λ tys. All (IsPrintableRow tys) loaded.table.rows) (sym c.requires.types) (printable_rows loaded.sniffed.types loaded.table.rows c.requires.rows c.requires.values))

pub returns : goal.returns
returns g c =
    let loaded = c.args.loaded in
    let found : List ℕ = found_lines loaded.sniffed in
    let rows : List (List Datum) = loaded.table.rows in
    let closing : List ℕ = closing_lines loaded [] in
    let head : List ℕ = c.in_ok-head.head.items in
    let tail : List ℕ = c.in_ok-head.tail.items in
    let made = c.new-rows.ensures ∙ ap (λ table. map row_line table.rows) c.into_table.ensures in
    let text_is = joined head found tail closing c.new-rows.result rows c.in_ok-head.ensures.0 made c.in_ok-head.ensures.1 in
    IfOk-weaker c.new.result (λ text. text ≡ head ++ (concat c.new-rows.result ++ tail)) (λ text. text ≡ (found ++ flat_map row_line rows) ++ closing) (λ text is. is ∙ text_is) c.new.ensures
