use Rattle.std.proofs.Common.{◌≡◌, ◌<◌, ◌++◌, List, All, vec_len}
use Rattle.range_scan.specs.declared.context.Context.{Context}
use Rattle.pipe_load.specs.declared.layout.Layout.{Layout}
use Rattle.pipe_load.specs.declared.scanner.Kept.{Kept}
use Rattle.pipe_load.specs.declared.window.Window.{Window}
use Rattle.pipe_load.specs.Slots.{AreSlots, IsInHand, Holds, Stays}
use Rattle.pipe_load.proofs.slots.Slots.place_all.Given as goal

abbrev pub invariant-loop-one : goal.invariant-loop-one
invariant-loop-one l = record {
  many : vec_len l.self.slots ≡ vec_len l.fn.self.slots;
  within : All (λ (k : Kept). k.window.number < vec_len l.self.slots) l.kept.items;
  slots : (context : Context) (plan : Layout) (made : List Window) → All (IsInHand context plan made) l.initial.kept.items → AreSlots context plan made l.fn.self
      → All (IsInHand context plan made) l.kept.items × AreSlots context plan made l.self;
  done : (done : List Kept) × (l.initial.kept.items ≡ l.kept.items ++ done) × All (λ (k : Kept). Holds l.self k.window.number) done;
  stays : Stays l.fn.self l.self;
}

abbrev pub decreases-loop-one : goal.decreases-loop-one
decreases-loop-one l = vec_len l.kept
