use Rattle.std.proofs.Common.{◌≡◌, subst}
use Rattle.std.proofs.lemmas.Result.{IfOk-weaker}
use Rattle.std.specs.Io.KnownBytes.{Consumes}
use Rattle.part_cuts.specs.Within.{most_bytes}
use Rattle.loader_reply.specs.Batch.{IsOpened}
use Rattle.loader_reply.specs.Loading.{IsFinding}
use Rattle.loader_reply.specs.Reply.{texts}
use Rattle.loader_reply.specs.Splitting.{split_outcome}
use Rattle.load_options.specs.Texts.{word_at}
use Rattle.loader_reply.proofs.SplitHeads.{all_read, more_read}
use Rattle.loader_reply.proofs.loader.Loader.split_file.Goals as goal

pub returns-in-Ok-clause-ok : goal.returns-in-Ok-clause-ok
returns-in-Ok-clause-ok g c =
    let held = g.S.Source.held c.args.source.now in
    let left = g.S.Source.left c.open_split.new.source in
    let all = texts c.args.words.now in
    let head = c.in_ok-head.head in
    let opened = subst (λ name. IsOpened held name (λ first. Consumes first left head.held.bytes)) c.word_at.ensures c.in_ok-head.ensures.ok.1 in
    IfOk-weaker c.split_found.result _ _
    (λ outcome read. all_read most_bytes held (word_at all 1) left (g.S.Source.left c.split_found.new.source) head.held opened (λ input. outcome ≡ split_outcome c.args.self.now.options.now all input) read)
    c.split_found.ensures.ok

pub returns-in-Ok-clause-too_large : goal.returns-in-Ok-clause-too_large
returns-in-Ok-clause-too_large g c = λ e.
    let held = g.S.Source.held c.args.source.now in
    let left = g.S.Source.left c.open_split.new.source in
    let head = c.in_ok-head.head in
    let opened = subst (λ name. IsOpened held name (λ first. Consumes first left head.held.bytes)) c.word_at.ensures c.in_ok-head.ensures.ok.1 in
    more_read most_bytes held (word_at (texts c.args.words.now) 1) left (g.S.Source.left c.split_found.new.source) head.held opened (c.split_found.ensures.too_large e)

pub split_found-requires-clause-finding : goal.split_found-requires-clause-finding
split_found-requires-clause-finding g c = subst (λ bytes. IsFinding c.args.self.now.options.now bytes c.in-Ok.finding) c.as_slice.ensures c.in-Ok.ensures.ok
