use Rattle.std.proofs.Common.{◌-◌, drop, length}
use Rattle.text_pieces.specs.Writes.{HasWritten}
use Rattle.csv_writer.specs.Quoting.{doubled}
use Rattle.csv_writer.proofs.straight.write_doubled.Given as goal

-- the bytes before `at` are written
abbrev pub invariant-loop-at : goal.invariant-loop-at
invariant-loop-at g l =
    HasWritten (g.K.Sink.taken l.fn.sink) (g.K.Sink.taken l.sink) (g.K.Sink.faults l.fn.sink) (g.K.Sink.faults l.sink) (doubled l.text) (doubled (drop l.at l.text))

abbrev pub decreases-loop-at : goal.decreases-loop-at
decreases-loop-at g l = length l.text - l.at
