use Rattle.std.proofs.Common.{◌++◌, ◌∷◌, [], drop}
use Rattle.std.specs.Prelude.{flat_map, slice_index_or}
use Rattle.text_pieces.specs.Writes.{HasWritten}
use Rattle.report_text.specs.Lines.{cell_text, row_line}
use Rattle.report_text.proofs.straight.write_row.Given as goal

-- all of the line is written but the cells that are left, and its end
abbrev pub invariant-loop-column : goal.invariant-loop-column
invariant-loop-column g l =
    let cells = slice_index_or l.table.rows l.row [] in
    HasWritten (g.K.Sink.taken l.fn.sink) (g.K.Sink.taken l.sink) (g.K.Sink.faults l.fn.sink) (g.K.Sink.faults l.sink) (row_line cells)
    (flat_map (λ cell. 124 ∷ cell_text cell) (drop l.column cells) ++ 10 ∷ [])
