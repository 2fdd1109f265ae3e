use Rattle.pipe_load.specs.Joining.{AddsRanges}
use Rattle.pipe_load.specs.Joining.{GuessedFrom}
use Rattle.pipe_load.proofs.scanner.Scanner.add_window.Given as goal

abbrev pub invariant-loop-range : goal.invariant-loop-range
invariant-loop-range g l = record {
  joined : AddsRanges l.self.ranges.context.now l.self.layout l.fn.kept.window l.range l.fn.joined l.joined;
  parts : GuessedFrom l.self.ranges.context.now l.self.layout l.fn.kept.window l.range l.parts.items;
}
