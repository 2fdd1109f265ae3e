use Rattle.std.proofs.Common.{◌≡◌, ◌+◌, ◌-◌, ◌≤◌, cond, length, true}
use Rattle.std.specs.Io.KnownBytes.{IsAtEnd}
use Rattle.part_cuts.specs.Within.{most_bytes}
use Rattle.file_split.proofs.PassedOn.{IsPassedOn}
use Rattle.file_split.proofs.file_piece.FilePiece.pass_all.Given as goal

abbrev pub invariant-loop-self : goal.invariant-loop-self
invariant-loop-self g l = record {
  passed : IsPassedOn l.fn.self (g.S.Source.left l.fn.source) l.fn.cuts (g.S.Source.left l.source) l.cuts l.self.bytes;
  stays : l.fn.self.ended ≡ true → l.self.ended ≡ true;
  fits : l.cuts.tally.bytes + length l.self.bytes ≤ most_bytes;
  at_end : l.self.ended ≡ true → IsAtEnd (g.S.Source.left l.source);
  held : g.S.Source.held l.source ≡ g.S.Source.held l.fn.source;
  count : g.S.Source.faults l.fn.source ≤ g.S.Source.faults l.source;
}

abbrev pub decreases-loop-self : goal.decreases-loop-self
decreases-loop-self g l = cond l.self.ended 0 (most_bytes + 1 - (l.cuts.tally.bytes + length l.self.bytes))
