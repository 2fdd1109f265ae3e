use Rattle.std.proofs.Common.{◌*◌, cond, ◌+◌, ◌-◌, ◌≤◌}
use Rattle.std.specs.Prelude.{None}
use Rattle.window_load.specs.Reads.{Reads}
use Rattle.window_load.proofs.RangesRead.{IsUpToRange}
use Rattle.window_load.proofs.ranges.read_ranges.Given as goal

abbrev pub invariant-loop-far : goal.invariant-loop-far
invariant-loop-far g l = record {
  up_to : IsUpToRange l.fn.scanner.context.now l.course (g.S.Source.left l.fn.source) (g.S.Source.left l.source) l.fn.window l.window l.number l.at l.joined;
  near : l.at ≤ 1;
  reads : Reads (g.S.Source.left l.fn.source) (g.S.Source.left l.source) (g.S.Source.held l.fn.source) (g.S.Source.held l.source) (g.S.Source.faults l.fn.source) (g.S.Source.faults l.source) l.fn.window l.window None;
}

abbrev pub decreases-loop-far : goal.decreases-loop-far
decreases-loop-far g l = 2 * (l.window.most + 1 - (l.window.base + l.at)) + cond l.far 0 1
