use Rattle.loader_reply.proofs.InputLemmas.{input_over}
use Rattle.loader_reply.proofs.loader.Loader.open_head.Goals as goal

pub returns-clause-too_large : goal.returns-clause-too_large
returns-clause-too_large g c = λ e.
    input_over c.args.self.now.options.now.max_input (g.S.Source.held c.args.source.now) c.args.name.now (g.S.Source.left c.open.new.self) (g.S.Source.left c.read_head.new.source) c.in-Ok.ensures.opened
    (c.read_head.ensures.too_large e)
