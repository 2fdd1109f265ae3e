use Rattle.std.proofs.Common.{[], ◌∷◌, Err, ap, ◌∙◌}
use Rattle.std.proofs.lemmas.Result.{IfOk-weaker}
use Rattle.loader_reply.specs.Reply.{sniffed_reply}
use Rattle.loader_reply.proofs.FileSteps.{lacks_alone, over_alone}
use Rattle.loader_reply.proofs.Replies.{sniffed_told, stopped_told}
use Rattle.loader_reply.proofs.loader.Loader.sniffed_reply.Goals as goal

pub returns-in-Ok-clause-ok : goal.returns-in-Ok-clause-ok
returns-in-Ok-clause-ok g c =
    IfOk-weaker c.report.result _ _
    (λ r is. sniffed_told c.args.self.now.options.now (g.S.Source.held c.args.source.now) c.args.name.now (g.S.Source.left c.sniff_file.new.source)
    (g.S.Source.faults c.args.source.now) (g.S.Source.faults c.sniff_file.new.source) c.in-Ok.outcome r is c.in-Ok.ensures.ok)
    c.report.ensures

pub returns-in-Err-clause-ok : goal.returns-in-Err-clause-ok
returns-in-Err-clause-ok g c =
    let o = c.args.self.now.options.now in
    let held = g.S.Source.held c.args.source.now in
    let left = g.S.Source.left c.sniff_file.new.source in
    IfOk-weaker c.stopped_reply.result _ _
    (λ r is. stopped_told o.max_input held (c.args.name.now ∷ []) left (g.S.Source.faults c.args.source.now) (g.S.Source.faults c.sniff_file.new.source) r (sniffed_reply o) c.in-Err.stop is
    (λ e. over_alone o.max_input held c.args.name.now left (c.sniff_file.ensures.too_large (c.in-Err.is ∙ ap (λ s. Err s) e)))
    (λ e. lacks_alone o.max_input held c.args.name.now left (c.sniff_file.ensures.failed (c.in-Err.is ∙ ap (λ s. Err s) e))))
    c.stopped_reply.ensures.ok
