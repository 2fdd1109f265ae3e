use Rattle.std.proofs.Common.{◌≡◌, ◌+◌, length}
use Rattle.npz_writer.specs.Walks.{rest, steps}
use Rattle.npz_writer.proofs.measure.count_bytes.Given as goal

abbrev pub invariant-loop-count : goal.invariant-loop-count
invariant-loop-count l = l.total + length (rest l.walk) ≡ length (rest l.fn.walk)

abbrev pub decreases-loop-count : goal.decreases-loop-count
decreases-loop-count l = steps l.walk
