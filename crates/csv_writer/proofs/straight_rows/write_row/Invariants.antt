use Rattle.std.proofs.Common.{◌++◌, ◌∷◌, [], drop, map}
use Rattle.std.specs.Prelude.{slice_index_or}
use Rattle.text_pieces.specs.Writes.{HasWritten}
use Rattle.csv_writer.specs.WrittenTable.{cell_field, row_line}
use Rattle.csv_writer.proofs.StraightSteps.{fields_from}
use Rattle.csv_writer.proofs.straight_rows.write_row.Given as goal

-- the fields before the column are written
abbrev pub invariant-loop-column : goal.invariant-loop-column
invariant-loop-column g l =
    let cells = slice_index_or l.chunk.rows l.row [] in
    HasWritten (g.K.Sink.taken l.fn.sink) (g.K.Sink.taken l.sink) (g.K.Sink.faults l.fn.sink) (g.K.Sink.faults l.sink) (row_line cells) (fields_from l.column (map cell_field (drop l.column cells)) ++ 10 ∷ [])
