use Rattle.std.proofs.Common.{◌≡◌, List, All, ◌++◌, vec_len}
use Rattle.crossbeam_queue.specs.Passes.{view}
use Rattle.range_scan.specs.declared.context.Context.{Context}
use Rattle.pipe_load.specs.declared.layout.Layout.{Layout}
use Rattle.pipe_load.specs.declared.stage.Stage.{Stage}
use Rattle.pipe_load.specs.declared.window.Window.{Window}
use Rattle.pipe_load.specs.Scanning.{IsStage, HasScanned}
use Rattle.pipe_load.specs.Slots.{AreSlots, HasPut, HoldsAll, Stays}
use Rattle.pipe_load.proofs.slots.Slots.place_stages.Given as goal

abbrev pub invariant-loop-stage : goal.invariant-loop-stage
invariant-loop-stage l = record {
  pass : HasPut l.windows (view l.fn.pass).put l.pass;
  many : vec_len l.self.slots ≡ vec_len l.fn.self.slots;
  apart : (view l.pass).stages ≡ vec_len l.stages;
  stages : All (IsStage l.windows) l.stages.items;
  all : (context : Context) × (plan : Layout) × All (HasScanned context plan) l.stages.items;
  slots : (context : Context) (plan : Layout) (made more : List Window) → made ≡ (view l.fn.pass).put ++ more → All (HasScanned context plan) l.initial.stages.items → AreSlots context plan made l.fn.self
      → All (HasScanned context plan) l.stages.items × AreSlots context plan made l.self;
  done : (done : List Stage) × (l.initial.stages.items ≡ l.stages.items ++ done) × All (λ (s : Stage). HoldsAll l.self (view s.pass).taken) done;
  taken : HoldsAll l.fn.self (view l.fn.pass).taken → HoldsAll l.self (view l.pass).taken;
  stays : Stays l.fn.self l.self;
}

abbrev pub decreases-loop-stage : goal.decreases-loop-stage
decreases-loop-stage l = vec_len l.stages
