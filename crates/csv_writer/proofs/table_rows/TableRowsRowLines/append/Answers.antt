use Rattle.std.proofs.Common.{◌≡◌, ◌++◌, List, ℕ, subst, sym}
use Rattle.std.specs.Prelude.{OnOk, slice_range}
use Rattle.text_pieces.proofs.RowTexts.{lines-range}
use Rattle.csv_writer.specs.WrittenTable.{row_line, row_lines}
use Rattle.csv_writer.proofs.table_rows.TableRowsRowLines.append.Goals as goal

pub returns : goal.returns
returns c =
    let Is = λ (text : List ℕ). OnOk c.write_rows.result (c.write_rows.new.into.text ≡ c.args.into.now.text ++ text) in
    record {
      ok =
          subst Is (sym (lines-range row_line c.args.self.now c.args.from c.args.to))
          (subst (λ rows. Is (row_lines (slice_range rows c.args.from c.args.to))) c.self.view_is c.write_rows.ensures.ok);
    }
