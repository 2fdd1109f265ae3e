use Rattle.std.proofs.Common.{IfOk, drop, subst}
use Rattle.window_load.specs.DataRead.{ComesWhole, IsWindowRead}
use Rattle.loader_reply.proofs.loader.Loader.read_data.Goals as goal

pub returns-then-self-clause-ok : goal.returns-then-self-clause-ok
returns-then-self-clause-ok g c =
    let left = g.S.Source.left in
    subst (λ stop. IfOk c.pipe_load.result (λ read. ComesWhole (left c.args.source.now) (left c.pipe_load.new.source) c.args.head
    (λ input. IsWindowRead c.args.context.now (drop c.args.start input) c.args.start c.args.self.now.options.now.range_size stop read))) c.stops_at_error-stop.ensures c.pipe_load.ensures.ok

pub returns-clause-ok : goal.returns-clause-ok
returns-clause-ok g c =
    let left = g.S.Source.left in
    subst (λ stop. IfOk c.window_load.result (λ read. ComesWhole (left c.args.source.now) (left c.window_load.new.source) c.args.head
    (λ input. IsWindowRead c.args.context.now (drop c.args.start input) c.args.start c.args.self.now.options.now.range_size stop read))) c.stops_at_error-stop.ensures c.window_load.ensures.ok
