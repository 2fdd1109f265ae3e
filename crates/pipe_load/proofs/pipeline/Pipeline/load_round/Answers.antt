use Rattle.std.proofs.Common.{◌≡◌, false, length, All, refl, sym, ◌∙◌, subst, arith, rules}
use Rattle.std.proofs.lemmas.List.{with_items_is}
use Rattle.std.proofs.lemmas.List.Elements.{All-same}
use Rattle.window_load.proofs.ReadSteps.{reads_none, reads_short, reads_same}
use Rattle.pipe_load.specs.declared.stage.Stage.{Stage}
use Rattle.pipe_load.specs.Scanning.{HasScanned, IsStage}
use Rattle.pipe_load.proofs.pipeline.Pipeline.load_round.Goals as goal

pub read_beside-requires-clause-stages : goal.read_beside-requires-clause-stages
read_beside-requires-clause-stages g c κs within =
    let windows = c.in_ok-windows.windows in
    let scanner = c.args.self.now.scanner in
    let made = c.in_ok-stages.ensures in
    let lent = sym c.as_mut_slice.ensures.value in
    let threads = c.args.self.now.within in
    record {
      some = let some = threads.0 in let count = made.count in let long = c.as_mut_slice.ensures.len in omega (arith, some, count, long);
      stages = subst (All (IsStage windows)) lent made.stages;
      all = subst (All (HasScanned scanner.ranges.context.now scanner.layout)) lent (made.all scanner.ranges.context.now scanner.layout);
    }

pub join_windows-requires-clause-stages : goal.join_windows-requires-clause-stages
join_windows-requires-clause-stages g c κs within =
    let stages = c.in_ok-stages.stages in
    let worked = c.read_beside.new.stages in
    let long : length worked ≡ stages.len = let kept = c.read_beside.auto.stages in let lent = c.as_mut_slice.ensures.len in omega (arith, kept, lent) in
    All-same (IsStage c.in_ok-windows.windows) _ worked (with_items_is stages worked long) c.read_beside.ensures.stages.stages

pub join_windows-requires-clause-all : goal.join_windows-requires-clause-all
join_windows-requires-clause-all g c κs within =
    let stages = c.in_ok-stages.stages in
    let worked = c.read_beside.new.stages in
    let scanner = c.args.self.now.scanner in
    let long : length worked ≡ stages.len = let kept = c.read_beside.auto.stages in let lent = c.as_mut_slice.ensures.len in omega (arith, kept, lent) in
    All-same (λ (stage : Stage). stage.short ≡ false → HasScanned scanner.ranges.context.now scanner.layout stage) _ worked (with_items_is stages worked long) c.read_beside.ensures.stages.all

pub returns-in_err-windows-clause-reads : goal.returns-in_err-windows-clause-reads
returns-in_err-windows-clause-reads g c = record { reads = reads_short (reads_none (g.S.Source.left c.args.source.now) (g.S.Source.held c.args.source.now) (g.S.Source.faults c.args.source.now) c.args.reader.now.window c.requires.at_end) c.from_residual.result (search rules); layout = refl }

pub returns-in_err-stages-clause-reads : goal.returns-in_err-stages-clause-reads
returns-in_err-stages-clause-reads g c = record { reads = reads_short (reads_none (g.S.Source.left c.args.source.now) (g.S.Source.held c.args.source.now) (g.S.Source.faults c.args.source.now) c.args.reader.now.window c.requires.at_end) c.from_residual-in_err-stages.result (search rules); layout = refl }

pub returns-in_err-join_windows-clause-reads : goal.returns-in_err-join_windows-clause-reads
returns-in_err-join_windows-clause-reads g c =
    let read = c.in-Ok.ensures.reads in
    let same = c.join_windows.ensures.same in
    record { reads = reads_short (reads_same read.reads same.0) c.from_residual-in_err-join_windows.result (search rules); layout = same.2 ∙ read.layout }

pub returns-clause-reads : goal.returns-clause-reads
returns-clause-reads g c =
    let read = c.in-Ok.ensures.reads in
    let same = c.join_windows.ensures.same in
    record { reads = reads_same read.reads same.0; layout = same.2 ∙ read.layout }
