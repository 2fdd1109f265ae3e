use Rattle.std.proofs.Common.{◌≡◌, ◌-◌, List, ◌++◌, vec_len}
use Rattle.crossbeam_queue.specs.Passes.{view}
use Rattle.range_scan.specs.declared.context.Context.{Context}
use Rattle.pipe_load.specs.declared.layout.Layout.{Layout}
use Rattle.pipe_load.specs.declared.window.Window.{Window}
use Rattle.pipe_load.specs.PassViews.{items_taken}
use Rattle.pipe_load.specs.Slots.{AreSlots, HasPut, IsAllHeld, Stays}
use Rattle.pipe_load.proofs.slots.Slots.fetch.Given as goal

abbrev pub invariant-loop-kept : goal.invariant-loop-kept
invariant-loop-kept g l = record {
  pass : HasPut l.windows (view l.fn.pass).put l.pass;
  many : vec_len l.self.slots ≡ vec_len l.fn.self.slots;
  slots : (context : Context) (plan : Layout) (made more : List Window) → made ≡ (view l.fn.pass).put ++ more → AreSlots context plan made l.fn.self → AreSlots context plan made l.self;
  held : IsAllHeld l.number l.self (view l.pass);
  stays : Stays l.fn.self l.self;
}

-- each pop takes one of the items that were put
abbrev pub decreases-loop-kept : goal.decreases-loop-kept
decreases-loop-kept g l = (view l.pass).puts - items_taken (view l.pass)
