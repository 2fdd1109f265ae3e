use Rattle.std.proofs.Common.{◌∙◌}
use Rattle.loader_reply.specs.Reply.{texts}
use Rattle.loader_reply.proofs.SplitHeads.{head_short, told_in_all}
use Rattle.loader_reply.proofs.loader.Loader.split_found.Goals as goal

pub cut_rest-requires-clause-within : goal.cut_rest-requires-clause-within
cut_rest-requires-clause-within g c = head_short c.args.self.now.options.now.skip c.args.head.held c.args.head.lies c.requires.head

pub returns-in_ok-split_told-in-Ok-clause-ok : goal.returns-in_ok-split_told-in-Ok-clause-ok
returns-in_ok-split_told-in-Ok-clause-ok g c =
    let read = c.in-Ok.ensures.ok in (
      read.0,
      read.1,
      read.2,
      read.3,
      read.4,
      c.in_ok-split_told-in-Ok.ensures.ok
          ∙ told_in_all c.args.self.now.options.now (texts c.args.words.now) c.args.head.held c.args.finding c.requires.finding read.0 read.3 c.args.head.lies c.in-Ok.cuts c.requires.head read.5,
    )
