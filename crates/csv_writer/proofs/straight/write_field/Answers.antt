use Rattle.std.proofs.Common.{◌++◌, ◌∷◌, List, ℕ, subst, arith, refl}
use Rattle.value_types.specs.Datum.{datum_of}
use Rattle.text_pieces.specs.Writes.{Writes}
use Rattle.text_pieces.proofs.WriteSteps.{last_written, more_written, none_written}
use Rattle.csv_writer.specs.WrittenTable.{cell_field}
use Rattle.csv_writer.proofs.StraightSteps.{comma-at}
use Rattle.csv_writer.proofs.straight.write_field.Goals as goal

pub returns : goal.returns
returns g c =
    let field : List ℕ = cell_field (datum_of c.args.cell) in
    subst (λ comma. Writes (g.K.Sink.taken c.args.sink.now) (g.K.Sink.taken c.write_cell-2.new.sink) (g.K.Sink.faults c.args.sink.now) (g.K.Sink.faults c.write_cell-2.new.sink) c.write_cell-2.result (comma ++ field))
    (comma-at c.args.column (λ e. omega (arith, e, c.if-column-eq0.false)))
    (last_written c.write_cell-2.result (more_written _ field (none_written (g.K.Sink.taken c.args.sink.now) (g.K.Sink.faults c.args.sink.now) (44 ∷ field)) refl c.in_ok-write_text.ensures) c.write_cell-2.ensures)
