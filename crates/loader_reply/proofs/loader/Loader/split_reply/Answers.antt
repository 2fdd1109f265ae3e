use Rattle.std.proofs.Common.{[], ◌∷◌, Err, ap, ◌∙◌}
use Rattle.std.proofs.lemmas.Result.{IfOk-weaker}
use Rattle.load_options.specs.Texts.{word_at}
use Rattle.part_cuts.specs.Within.{most_bytes}
use Rattle.loader_reply.specs.Reply.{split_reply, texts}
use Rattle.loader_reply.proofs.FileSteps.{lacks_alone, over_alone}
use Rattle.loader_reply.proofs.Replies.{split_file_told, stopped_told}
use Rattle.loader_reply.proofs.loader.Loader.split_reply.Goals as goal

pub returns-in-Ok-clause-ok : goal.returns-in-Ok-clause-ok
returns-in-Ok-clause-ok g c =
    let all = texts c.args.words.now in
    IfOk-weaker c.report.result _ _
    (λ r is. split_file_told c.args.self.now.options.now all (g.S.Source.held c.args.source.now) (word_at all 1) (g.S.Source.left c.split_file.new.source)
    (g.S.Source.faults c.args.source.now) (g.S.Source.faults c.split_file.new.source) c.in-Ok.outcome r is c.in-Ok.ensures.ok)
    c.report.ensures

pub returns-in-Err-clause-ok : goal.returns-in-Err-clause-ok
returns-in-Err-clause-ok g c =
    let all = texts c.args.words.now in
    let held = g.S.Source.held c.args.source.now in
    let left = g.S.Source.left c.split_file.new.source in
    IfOk-weaker c.stopped_reply.result _ _
    (λ r is. stopped_told most_bytes held (word_at all 1 ∷ []) left (g.S.Source.faults c.args.source.now) (g.S.Source.faults c.split_file.new.source) r
    (split_reply c.args.self.now.options.now all) c.in-Err.stop is
    (λ e. over_alone most_bytes held (word_at all 1) left (c.split_file.ensures.too_large (c.in-Err.is ∙ ap (λ s. Err s) e)))
    (λ e. lacks_alone most_bytes held (word_at all 1) left (c.split_file.ensures.failed (c.in-Err.is ∙ ap (λ s. Err s) e))))
    c.stopped_reply.ensures.ok
