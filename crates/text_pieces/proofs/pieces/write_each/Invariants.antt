use Rattle.std.proofs.Common.{◌≤◌, take}
use Rattle.std.specs.Io.KnownBytes.{Appends}
use Rattle.text_pieces.proofs.Fronts.{text_of}
use Rattle.text_pieces.proofs.pieces.write_each.Given as goal

-- the pieces so far are written
abbrev pub invariant-loop-piece : goal.invariant-loop-piece
invariant-loop-piece g l = record {
  text : Appends (g.K.Sink.taken l.fn.sink) (g.K.Sink.taken l.sink) (text_of (take l.piece-index l.pieces));
  count : g.K.Sink.faults l.fn.sink ≤ g.K.Sink.faults l.sink;
}
