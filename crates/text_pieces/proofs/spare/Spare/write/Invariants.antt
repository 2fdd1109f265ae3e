use Rattle.std.proofs.Common.{◌≤◌, ◌-◌}
use Rattle.std.specs.Prelude.{slice_range}
use Rattle.std.specs.List.{concat}
use Rattle.text_pieces.specs.Writes.{HasWritten}
use Rattle.text_pieces.proofs.spare.Spare.write.Given as goal

-- the lines of the rows before `at` are written
abbrev pub invariant-loop-at : goal.invariant-loop-at
invariant-loop-at g l =
    let lines = g.T.RowLines.lines l.rows in
    record {
      after : l.from ≤ l.at;
      within : l.at ≤ l.to;
      text : HasWritten (g.K.Sink.taken l.fn.sink) (g.K.Sink.taken l.sink) (g.K.Sink.faults l.fn.sink) (g.K.Sink.faults l.sink) (concat (slice_range lines l.from l.to))
          (concat (slice_range lines l.at l.to));
    }

abbrev pub decreases-loop-at : goal.decreases-loop-at
decreases-loop-at g l = l.to - l.at
