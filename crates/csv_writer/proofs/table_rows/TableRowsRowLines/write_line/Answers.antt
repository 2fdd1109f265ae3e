use Rattle.std.proofs.Common.{[], ap, arith, get_or, subst, sym, ◌∙◌}
use Rattle.std.proofs.lemmas.List.{get_or-map, length-map}
use Rattle.text_pieces.specs.Writes.{Writes}
use Rattle.csv_writer.specs.WrittenTable.{row_line}
use Rattle.csv_writer.proofs.table_rows.TableRowsRowLines.write_line.Goals as goal

pub returns : goal.returns
returns g c =
    let rows = c.args.self.now in
    let row = c.args.row in
    subst (Writes (g.K.Sink.taken c.args.sink.now) (g.K.Sink.taken c.write_line.new.sink) (g.K.Sink.faults c.args.sink.now) (g.K.Sink.faults c.write_line.new.sink) c.write_line.result)
    (ap (λ rs. row_line (get_or rs row [])) c.self.view_is ∙ sym (get_or-map row_line rows row [] [] (omega (arith, c.requires.within, length-map rows row_line))))
    c.write_line.ensures
