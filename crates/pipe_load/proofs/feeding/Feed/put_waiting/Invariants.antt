use Rattle.std.proofs.Common.{◌≡◌}
use Rattle.std.specs.VecDeque.{deque_len}
use Rattle.crossbeam_queue.specs.Passes.{view}
use Rattle.pipe_load.specs.Feeding.{IsFeed, made_of}
use Rattle.pipe_load.proofs.feeding.Feed.put_waiting.Given as goal

abbrev pub invariant-loop-window : goal.invariant-loop-window
invariant-loop-window g l = record {
  feed : IsFeed l.windows (view l.fn.self.pass).stages l.self;
  same : made_of l.self ≡ made_of l.fn.self;
}

abbrev pub decreases-loop-window : goal.decreases-loop-window
decreases-loop-window g l = deque_len l.self.waiting
