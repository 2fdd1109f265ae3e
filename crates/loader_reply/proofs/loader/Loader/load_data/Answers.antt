use Rattle.std.proofs.Common.{◌++◌, ◌∙◌, ap, take, drop, None}
use Rattle.byte_classes.specs.LineEnds.{line_ends}
use Rattle.loader_reply.proofs.HeadLoads.{load_comes}
use Rattle.loader_reply.proofs.Loads.{has_columns, keeps_as}
use Rattle.loader_reply.proofs.loader.Loader.load_data.Goals as goal

pub read_data-came-requires-clause-fits : goal.read_data-came-requires-clause-fits
read_data-came-requires-clause-fits g c κs within = has_columns c.args.self.now.options.now c.args.sniffed.now c.args.file_id c.in-Ok.context c.requires.columns c.in-Ok.ensures.ok

pub raised_read-requires : goal.raised_read-requires
raised_read-requires g c =
    let came = c.in_ok-read-in-Ok.ensures.ok in
    record { same = keeps_as c.in-Ok.context (drop c.args.start (c.args.head.kept ++ came.0)) c.args.start c.args.self.now.options.now.range_size _ c.in_ok-read-in-Ok.read came.5 }

pub returns-in_ok-raised_read-in-Ok-clause-ok : goal.returns-in_ok-raised_read-in-Ok-clause-ok
returns-in_ok-raised_read-in-Ok-clause-ok g c =
    load_comes c.args.self.now.options.now c.args.head c.requires.head c.args.sniffed.now c.args.file_id c.args.start c.in-Ok.context
    (g.S.Source.left c.args.source.now) (g.S.Source.left c.read_data-came.new.source) c.requires.place c.requires.within c.in-Ok.ensures.ok
    c.in_ok-read-in-Ok.read c.in_ok-raised_read-in-Ok.field-0 c.count_line_ends-lines.result (c.count_line_ends-lines.ensures ∙ ap (λ xs. line_ends None (take c.args.start xs)) c.bytes.ensures) c.in_ok-raised_read-in-Ok.ensures.ok c.in_ok-read-in-Ok.ensures.ok
