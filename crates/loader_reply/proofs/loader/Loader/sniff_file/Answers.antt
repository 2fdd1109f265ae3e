use Rattle.std.proofs.Common.{◌≡◌, ◌+◌, ◌∙◌, ap, rules}
use Rattle.window_load.specs.Window.{reach}
use Rattle.loader_reply.specs.Reply.{sniffed_outcome}
use Rattle.loader_reply.proofs.HeadFiles.{whole_file, over_file}
use Rattle.loader_reply.proofs.HeadSteps.{past_over, past_whole, sniffed_in_all}
use Rattle.loader_reply.proofs.loader.Loader.sniff_file.Goals as goal

pub returns-in-Err-clause-too_large : goal.returns-in-Err-clause-too_large
returns-in-Err-clause-too_large g c = λ e.
    let over : reach c.read_past-past.new.self ≡ c.read_past-past.new.self.most + 1 = search rules in
    over_file c.args.self.now.options.now.max_input (g.S.Source.held c.args.source.now) c.args.name.now (g.S.Source.left c.open_head.new.source) (g.S.Source.left c.read_past-past.new.source) c.in_ok-head.head c.in_ok-head.ensures.ok.0.limit c.in_ok-head.ensures.ok.1
    (past_over (g.S.Source.left c.open_head.new.source) (g.S.Source.left c.read_past-past.new.source) c.in_ok-head.head c.read_past-past.new.self c.in_ok-head.ensures.ok.0.begins c.read_past-past.ensures.moved over)

pub returns-in-Ok-clause-ok : goal.returns-in-Ok-clause-ok
returns-in-Ok-clause-ok g c =
    let o = c.args.self.now.options.now in
    let outcome = c.in_ok-outcome.outcome in
    whole_file c.args.self.now.options.now.max_input (g.S.Source.held c.args.source.now) c.args.name.now (g.S.Source.left c.open_head.new.source) (g.S.Source.left c.read_past-past.new.source) c.in_ok-head.head c.in_ok-head.ensures.ok.0.limit c.in_ok-head.ensures.ok.1
    (λ input. outcome ≡ sniffed_outcome o input) (λ input. outcome ≡ sniffed_outcome o input) (λ came quiet is. is)
    (past_whole (g.S.Source.left c.open_head.new.source) (g.S.Source.left c.read_past-past.new.source) c.in_ok-head.head c.read_past-past.new.self c.in_ok-head.ensures.ok.0.begins c.read_past-past.ensures.moved
    (λ input. outcome ≡ sniffed_outcome o input) c.read_past-past.ensures.stays (c.read_past-past.ensures.at_end c.in-Ok.ensures.ok.0) c.in-Ok.ensures.ok.1
    (λ came quiet. sniffed_in_all o c.in_ok-head.head c.in_ok-head.ensures.ok.0 came quiet outcome (c.in_ok-outcome.ensures.ok ∙ ap (sniffed_outcome o) c.bytes.ensures)))
