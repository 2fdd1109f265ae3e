use Rattle.std.proofs.Common.{List, subst}
use Rattle.column_taps.specs.Seen.{Seen}
use Rattle.loader_reply.specs.Reply.{texts}
use Rattle.csv_loader.specs.Headline.{IsRun}
use Rattle.program_answer.proofs.FreshTaps.{all_fresh}
use Rattle.program_answer.proofs.loading.run_with.Goals as goal

pub run_to_ending-requires-after_bounds : goal.run_to_ending-requires-after_bounds
run_to_ending-requires-after_bounds g c κs within = all_fresh (λ tap. (goal.RowTap-dyn g (tap.vtable, tap.value)).seen tap.value) c.args.taps.items c.requires

pub returns-clause-run : goal.returns-clause-run
returns-clause-run g c = subst (λ (taps : List Seen). IsRun taps (texts c.args.words.now)
    (record { held = g.S.Source.held c.args.source.now; left = g.S.Source.left c.args.source.now; faults = g.S.Source.faults c.args.source.now })
    (record { held = g.S.Source.held c.run_to_ending.new.source; left = g.S.Source.left c.run_to_ending.new.source; faults = g.S.Source.faults c.run_to_ending.new.source })
    (record { taken = g.K.Sink.taken c.args.sink.now; faults = g.K.Sink.faults c.args.sink.now })
    (record { taken = g.K.Sink.taken c.run_to_ending.new.sink; faults = g.K.Sink.faults c.run_to_ending.new.sink }) c.run_to_ending.result) c.requires c.run_to_ending.ensures.run
