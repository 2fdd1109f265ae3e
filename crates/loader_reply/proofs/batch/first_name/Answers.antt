use Rattle.std.proofs.Common.{Some, None, ◌∙◌, ap, arith}
use Rattle.std.proofs.lemmas.Str.Pattern.{split_parts}
use Rattle.load_options.specs.FileNames.{file_names}
use Rattle.load_options.proofs.ListSteps.{pieces-whole}
use Rattle.loader_reply.proofs.NameSteps.{first_piece}
use Rattle.loader_reply.proofs.batch.first_name.Goals as goal

pub returns-in-Some : goal.returns-in-Some
returns-in-Some c =
    let parts = split_parts 44 c.args.word.now (Some (c.in-Some.name, c.in-Some.behind)) c.in-Some.ensures.cases (omega arith) in
    ap file_names parts.0 ∙ first_piece 44 c.in-Some.name.now c.in-Some.behind.now parts.1

pub returns-in-None : goal.returns-in-None
returns-in-None c = pieces-whole 44 c.args.word.now (split_parts 44 c.args.word.now None c.in-None.ensures.cases (omega arith))
