use Rattle.std.proofs.Common.{[], subst, sym}
use Rattle.text_pieces.specs.Writes.{Writes}
use Rattle.csv_writer.specs.Writable.{IsWritableRow}
use Rattle.csv_writer.specs.WrittenTable.{row_line}
use Rattle.csv_writer.proofs.straight_rows.write_line.Goals as goal

pub write_row-requires-clause-writable : goal.write_row-requires-clause-writable
write_row-requires-clause-writable g c = subst IsWritableRow (sym c.chunk_with-place.ensures.same) (c.requires.writable c.args.row [] c.requires.within)

pub returns : goal.returns
returns g c =
    subst (λ cells. Writes (g.K.Sink.taken c.args.sink.now) (g.K.Sink.taken c.write_row.new.sink) (g.K.Sink.faults c.args.sink.now) (g.K.Sink.faults c.write_row.new.sink) c.write_row.result (row_line cells))
    c.chunk_with-place.ensures.same c.write_row.ensures
