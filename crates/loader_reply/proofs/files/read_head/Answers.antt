use Rattle.std.proofs.Common.{◌≡◌, ◌+◌, rules}
use Rattle.window_load.specs.Window.{reach}
use Rattle.loader_reply.proofs.HeadSteps.{head_over}
use Rattle.loader_reply.proofs.files.read_head.Goals as goal

pub returns-in_err-fill_to-clause-too_large : goal.returns-in_err-fill_to-clause-too_large
returns-in_err-fill_to-clause-too_large g c = λ e.
    let over : reach c.fill_to.new.self ≡ c.fill_to.new.self.most + 1 = search rules in
    head_over c.args.most (g.S.Source.left c.args.source.now) (g.S.Source.left c.loop-head.source) (g.S.Source.left c.fill_to.new.source) c.loop-head.head c.fill_to.new.self c.loop-head.invariant.0
    c.fill_to.ensures.moved c.fill_to.ensures.same.0 c.fill_to.ensures.same.1 over
