use Rattle.std.proofs.Common.{◌≡◌, ◌-◌, ◌^◌}
use Rattle.std.specs.Prelude.{None}
use Rattle.window_load.specs.Reads.{Reads}
use Rattle.pipe_load.specs.Layout.{IsLayout}
use Rattle.pipe_load.proofs.RoundLaws.{IsUpToRound}
use Rattle.pipe_load.proofs.loading.load_rounds.Given as goal

abbrev pub invariant-loop-joined : goal.invariant-loop-joined
invariant-loop-joined g l = record {
  plan : l.reader.layout ≡ record l.fn.layout { before = l.reader.layout.before };
  lies : IsLayout l.reader.layout;
  number : l.reader.number ≡ 0;
  up_to : IsUpToRound l.loader.context.now l.reader.layout l.fn.window (g.S.Source.left l.fn.source) (g.S.Source.left l.source) l.reader.window l.joined;
  types : l.joined.table.types ≡ l.loader.context.now.schema.types;
  keep : l.joined.book.keep ≡ l.loader.context.now.keep;
  reads : Reads (g.S.Source.left l.fn.source) (g.S.Source.left l.source) (g.S.Source.held l.fn.source) (g.S.Source.held l.source) (g.S.Source.faults l.fn.source) (g.S.Source.faults l.source) l.fn.window l.reader.window None;
}

-- each round has windows
abbrev pub decreases-loop-joined : goal.decreases-loop-joined
decreases-loop-joined g l = 2 ^ 41 - l.reader.layout.before
