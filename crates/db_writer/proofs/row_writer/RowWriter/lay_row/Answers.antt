use Rattle.std.proofs.Common.{◌∙◌, ap}
use Rattle.std.proofs.lemmas.Result.{on_ok_weaker}
use Rattle.db_pages.specs.Grown.{Filled}
use Rattle.db_writer.specs.Written.{with_laid_row}
use Rattle.db_writer.proofs.row_writer.RowWriter.lay_row.Goals as goal

pub returns-then-len : goal.returns-then-len
returns-then-len c =
    let s = c.self.inside in
    record {
      ok = on_ok_weaker c.push_values.result
          (λ out. ap (λ (rows : Filled). record { rows = rows; next = s.next; values = record { types = s.types.text; body = s.body.text } }) out
          ∙ ap with_laid_row c.self.view_is) c.push_values.ensures.ok;
    }
