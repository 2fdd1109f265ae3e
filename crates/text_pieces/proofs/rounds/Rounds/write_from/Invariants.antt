use Rattle.std.proofs.Common.{◌<◌, ◌-◌, drop}
use Rattle.std.specs.List.{concat}
use Rattle.text_pieces.specs.Blocks.{AreDesks, IsRound}
use Rattle.text_pieces.specs.Writes.{HasWritten}
use Rattle.text_pieces.proofs.rounds.Rounds.write_from.Given as goal

-- the lines of the rows before the round that is ready are written
abbrev pub invariant-loop-self : goal.invariant-loop-self
invariant-loop-self g l =
    let lines = g.T.RowLines.lines l.rows in
    record {
      some : 0 < l.self.at_once;
      round : IsRound lines l.self.ready.round;
      ready : AreDesks lines l.self.ready;
      text : HasWritten (g.K.Sink.taken l.fn.sink) (g.K.Sink.taken l.sink) (g.K.Sink.faults l.fn.sink) (g.K.Sink.faults l.sink)
          (concat (drop l.fn.from lines)) (concat (drop l.self.ready.round.from lines));
    }

-- the last round ends at the last row
abbrev pub decreases-loop-self : goal.decreases-loop-self
decreases-loop-self g l = l.count - l.self.ready.round.to
