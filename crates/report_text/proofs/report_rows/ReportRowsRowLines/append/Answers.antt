use Rattle.std.proofs.Common.{◌++◌, List, ap, sym, ◌∙◌}
use Rattle.std.specs.Prelude.{slice_range}
use Rattle.std.specs.List.{concat}
use Rattle.std.proofs.lemmas.Result.{IfOk-equal}
use Rattle.value_types.specs.Datum.{Datum}
use Rattle.text_pieces.proofs.RowTexts.{lines-range}
use Rattle.report_text.specs.Lines.{row_line}
use Rattle.report_text.proofs.report_rows.ReportRowsRowLines.append.Goals as goal

pub returns : goal.returns
returns c =
    let rows : List (List Datum) = c.self.inside.table.rows in
    let from = c.args.from in
    let to = c.args.to in
    record {
      ok =
          IfOk-equal c.push_rows.result _ _ _ c.push_rows.ensures
          (ap (λ text. c.args.into.now.text ++ text) (sym (lines-range row_line rows from to) ∙ ap (λ lines. concat (slice_range lines from to)) c.self.view_is));
    }
