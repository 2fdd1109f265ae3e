use Rattle.std.proofs.Common.{◌≡◌}
use Rattle.crossbeam_queue.specs.Passes.{view}
use Rattle.pipe_load.specs.Scanning.{IsStage, HasScanned}
use Rattle.pipe_load.proofs.stage.Stage.take_windows.Given as goal

abbrev pub invariant-loop : goal.invariant-loop
invariant-loop g l = record {
  stage : IsStage l.windows l.self;
  all : HasScanned l.scanner.ranges.context.now l.scanner.layout l.self;
  marks : (view l.self.pass).marks_taken ≡ (view l.fn.self.pass).marks_taken;
}
