use Rattle.std.proofs.Common.{sym, subst}
use Rattle.loader_reply.specs.Reply.{texts}
use Rattle.loader_reply.specs.declared.ending.Ending.TheVariants.{NoMemory}
use Rattle.program_answer.specs.ProgramTaps.{program_taps}
use Rattle.csv_loader.specs.Headline.{IsRun}
use Rattle.program_answer.proofs.NoRun.{no_run}
use Rattle.program_answer.proofs.answering.answer.Goals as goal

-- where the taps find no memory, source and sink are as they were
pub returns-in-Err-clause-run : goal.returns-in-Err-clause-run
returns-in-Err-clause-run g c = λ none.
    let words = texts c.args.words.now in
    let same = c.in-Err.ensures.err in
    let source = c.args.source.now in
    let sink = c.args.sink.now in
    subst (λ s. IsRun program_taps words
    (record { held = g.S.Source.held source; left = g.S.Source.left source; faults = g.S.Source.faults source })
    (record { held = g.S.Source.held s; left = g.S.Source.left s; faults = g.S.Source.faults s })
    (record { taken = g.K.Sink.taken sink; faults = g.K.Sink.faults sink })
    (record { taken = g.K.Sink.taken c.load.new.sink; faults = g.K.Sink.faults c.load.new.sink }) NoMemory) (sym same.0)
    (subst (λ k. IsRun program_taps words
    (record { held = g.S.Source.held source; left = g.S.Source.left source; faults = g.S.Source.faults source })
    (record { held = g.S.Source.held source; left = g.S.Source.left source; faults = g.S.Source.faults source })
    (record { taken = g.K.Sink.taken sink; faults = g.K.Sink.faults sink })
    (record { taken = g.K.Sink.taken k; faults = g.K.Sink.faults k }) NoMemory) (sym same.1)
    (no_run program_taps words
    (record { held = g.S.Source.held source; left = g.S.Source.left source; faults = g.S.Source.faults source })
    (record { taken = g.K.Sink.taken sink; faults = g.K.Sink.faults sink })))
