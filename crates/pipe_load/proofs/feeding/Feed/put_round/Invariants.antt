use Rattle.std.proofs.Common.{◌≡◌, ◌≤◌, ◌-◌, List, ℕ, length}
use Rattle.std.specs.Prelude.{None}
use Rattle.crossbeam_queue.specs.Passes.{view}
use Rattle.window_load.specs.Reads.{Reads}
use Rattle.pipe_load.specs.Feeding.{IsFeed, made_of}
use Rattle.pipe_load.specs.Reading.{CutsOn}
use Rattle.pipe_load.proofs.feeding.Feed.put_round.Given as goal

abbrev pub invariant-loop-reader : goal.invariant-loop-reader
invariant-loop-reader g l = record {
  feed : IsFeed l.windows (view l.fn.self.pass).stages l.self;
  cuts : (more : List ℕ) × CutsOn l.fn.reader.layout (g.S.Source.left l.fn.source) (g.S.Source.left l.source) (made_of l.self) l.reader.number l.fn.reader.window l.reader.window more;
  counted : length (made_of l.self) ≡ l.reader.number;
  few : l.reader.number ≤ l.most;
  layout : l.reader.layout ≡ l.fn.reader.layout;
  reads : Reads (g.S.Source.left l.fn.source) (g.S.Source.left l.source) (g.S.Source.held l.fn.source) (g.S.Source.held l.source) (g.S.Source.faults l.fn.source) (g.S.Source.faults l.source) l.fn.reader.window l.reader.window None;
}

abbrev pub decreases-loop-reader : goal.decreases-loop-reader
decreases-loop-reader g l = l.most - l.reader.number
