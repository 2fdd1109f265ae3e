use Rattle.std.proofs.Common.{refl}
use Rattle.window_load.specs.Reads.{stop_in}
use Rattle.window_load.proofs.ReadSteps.{reads_none, answers_on, fill_reaches}
use Rattle.pipe_load.proofs.reader.Reader.fill.Goals as goal

pub returns-clause-reads : goal.returns-clause-reads
returns-clause-reads g c =
    let fill = c.fill_to.ensures in
    answers_on (reads_none (g.S.Source.left c.args.source.now) (g.S.Source.held c.args.source.now) (g.S.Source.faults c.args.source.now) c.args.self.now.window c.requires.at_end)
    (g.S.Source.left c.fill_to.new.source) (g.S.Source.held c.fill_to.new.source) (g.S.Source.faults c.fill_to.new.source) c.fill_to.new.self c.fill_to.result (stop_in c.fill_to.result) refl
    (fill_reaches (g.S.Source.left c.args.source.now) (g.S.Source.left c.fill_to.new.source) c.args.self.now.window c.fill_to.new.self fill.moved fill.same.0 fill.same.1) fill.at_end fill.held fill.count fill.too_large fill.failed
