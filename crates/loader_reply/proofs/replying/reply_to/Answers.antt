use Rattle.std.proofs.Common.{map, rules}
use Rattle.std.proofs.lemmas.List.Elements.{All-map}
use Rattle.column_taps.specs.Seen.{IsFresh}
use Rattle.std.proofs.lemmas.Result.{IfOk-weaker}
use Rattle.loader_reply.specs.Reply.{texts}
use Rattle.loader_reply.proofs.MadeRows.{rows_are_few}
use Rattle.loader_reply.proofs.Replies.{refused_told, words_told}
use Rattle.loader_reply.proofs.replying.reply_to.Goals as goal

pub reply_to_request-reply-requires-clause-rows : goal.reply_to_request-reply-requires-clause-rows
reply_to_request-reply-requires-clause-rows g c = λ κs lives. rows_are_few (texts c.args.words.now) c.in-Ok.request c.in-Ok.ensures.ok

pub reply_to_request-reply-requires-clause-fresh : goal.reply_to_request-reply-requires-clause-fresh
reply_to_request-reply-requires-clause-fresh g c = λ κs lives. All-map IsFresh (λ tap. (goal.RowTap-dyn g (tap.vtable, tap.value)).seen tap.value) c.args.taps.items c.requires.fresh

pub returns-in-Ok-clause-ok : goal.returns-in-Ok-clause-ok
returns-in-Ok-clause-ok g c =
    let taps = map (λ tap. (goal.RowTap-dyn g (tap.vtable, tap.value)).seen tap.value) c.args.taps.items in
    IfOk-weaker c.reply_to_request-reply.result _ _
    (λ r told. words_told (texts c.args.words.now) taps (g.S.Source.held c.args.source.now) (g.S.Source.left c.reply_to_request-reply.new.source)
    (g.S.Source.faults c.args.source.now) (g.S.Source.faults c.reply_to_request-reply.new.source) r c.in-Ok.request c.in-Ok.ensures.ok told)
    c.reply_to_request-reply.ensures.ok

pub returns-in-Err-Fault-clause-ok : goal.returns-in-Err-Fault-clause-ok
returns-in-Err-Fault-clause-ok g c =
    let taps = map (λ tap. (goal.RowTap-dyn g (tap.vtable, tap.value)).seen tap.value) c.args.taps.items in
    IfOk-weaker c.reply_to_refused.result _ _
    (λ r is. refused_told (texts c.args.words.now) taps (g.S.Source.held c.args.source.now) (g.S.Source.left c.args.source.now)
    (g.S.Source.faults c.args.source.now) (g.S.Source.faults c.args.source.now) r c.in-Err-Fault.fault (c.in-Err-Fault.ensures.err c.in-Err-Fault.fault (search rules)) is)
    c.reply_to_refused.ensures.ok
