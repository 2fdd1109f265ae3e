use Rattle.std.proofs.Common.{Some, None, sym, arith}
use Rattle.std.proofs.lemmas.List.{take_all}
use Rattle.std.proofs.lemmas.Str.Pattern.{split_once_first}
use Rattle.loader_reply.proofs.further_words.name_part.Goals as goal

pub returns-in-Some : goal.returns-in-Some
returns-in-Some c = (split_once_first 61 c.args.word.now (Some (c.in-Some.name, c.in-Some.field-0-1)) c.in-Some.ensures.cases (omega arith)).1

pub returns-in-None : goal.returns-in-None
returns-in-None c =
    let all = split_once_first 61 c.args.word.now None c.in-None.ensures.cases (omega arith) in
    sym (take_all _ c.args.word.now (omega (arith, all)))
