use Rattle.std.proofs.Common.{◌≡◌, ◌≤◌, ◌+◌, length}
use Rattle.csv_source.specs.Moves.{MovesFront}
use Rattle.csv_source.proofs.buffer.Buffer.read_more.Given as goal

abbrev pub invariant-loop-missing : goal.invariant-loop-missing
invariant-loop-missing g l =
    MovesFront (g.S.Source.left l.fn.source) (g.S.Source.left l.source) l.fn.self l.self
    × (g.S.Source.held l.source ≡ g.S.Source.held l.fn.source)
    × (length l.self + l.missing ≡ length l.fn.self + l.most)
    × (g.S.Source.faults l.fn.source ≤ g.S.Source.faults l.source)

abbrev pub decreases-loop-missing : goal.decreases-loop-missing
decreases-loop-missing g l = l.missing
