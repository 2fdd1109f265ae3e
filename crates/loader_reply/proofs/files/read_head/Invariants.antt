use Rattle.std.proofs.Common.{◌≡◌, ◌≤◌, true}
use Rattle.std.specs.Io.KnownBytes.{IsAtEnd}
use Rattle.window_load.proofs.ReachedOn.{still_to_come}
use Rattle.loader_reply.proofs.HeadSteps.{IsHeadSoFar}
use Rattle.loader_reply.proofs.files.read_head.Given as goal

abbrev pub invariant-loop-head : goal.invariant-loop-head
invariant-loop-head g l =
    IsHeadSoFar l.most (g.S.Source.left l.fn.source) (g.S.Source.left l.source) l.head
    × (l.head.ended ≡ true → IsAtEnd (g.S.Source.left l.source))
    × (g.S.Source.held l.source ≡ g.S.Source.held l.fn.source)
    × (g.S.Source.faults l.fn.source ≤ g.S.Source.faults l.source)

abbrev pub decreases-loop-head : goal.decreases-loop-head
decreases-loop-head g l = still_to_come l.head
