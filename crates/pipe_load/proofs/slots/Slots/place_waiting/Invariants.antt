use Rattle.std.proofs.Common.{◌≡◌, ◌<◌, ◌++◌, List, All, vec_len}
use Rattle.std.specs.VecDeque.{deque_len}
use Rattle.range_scan.specs.declared.context.Context.{Context}
use Rattle.pipe_load.specs.declared.layout.Layout.{Layout}
use Rattle.pipe_load.specs.declared.window.Window.{Window}
use Rattle.pipe_load.specs.PassViews.{IsOneOf}
use Rattle.pipe_load.specs.Slots.{AreSlots, HoldsAll, Stays}
use Rattle.pipe_load.proofs.slots.Slots.place_waiting.Given as goal

abbrev pub invariant-loop-window : goal.invariant-loop-window
invariant-loop-window l = record {
  many : vec_len l.self.slots ≡ vec_len l.fn.self.slots;
  within : All (λ (w : Window). w.number < vec_len l.self.slots) l.waiting.items;
  slots : (context : Context) (plan : Layout) (made : List Window) → All (IsOneOf made) l.initial.waiting.items → AreSlots context plan made l.fn.self → All (IsOneOf made) l.waiting.items × AreSlots context plan made l.self;
  done : (done : List Window) × (l.initial.waiting.items ≡ done ++ l.waiting.items) × HoldsAll l.self done;
  stays : Stays l.fn.self l.self;
}

abbrev pub decreases-loop-window : goal.decreases-loop-window
decreases-loop-window l = deque_len l.waiting
