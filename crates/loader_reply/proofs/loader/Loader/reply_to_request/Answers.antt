use Rattle.std.proofs.Common.{[], ◌∷◌, length, map, refl, sym, ap, ◌∙◌, subst, Err}
use Rattle.std.proofs.lemmas.Result.{IfOk-weaker}
use Rattle.loader_reply.specs.Batch.{names_of, HasFiles}
use Rattle.loader_reply.specs.Reply.{inputs_reply, opened_reply, sniffed_reply, texts}
use Rattle.loader_reply.specs.Replying.{IsReplyBy}
use Rattle.loader_reply.specs.declared.replying.Asked.TheVariants as asks
use Rattle.loader_reply.proofs.Replies.{asked_told, loaded_told, made_told, one_alone, stopped_told}
use Rattle.loader_reply.proofs.loader.Loader.reply_to_request.Goals as goal

pub load_reply-requires-clause-answerable : goal.load_reply-requires-clause-answerable
load_reply-requires-clause-answerable g c κs within = record {
  one = λ alone. subst (λ several. HasFiles (length (names_of several c.word_at-word.result.now)) c.in-Ok.files.load)
      (one_alone c.args.self.now.options.now c.args.request.now.command c.in-Loaded.answer c.in-Loaded.several (sym c.in-Loaded.is ∙ c.asked.ensures) alone) c.in-Ok.ensures.files;
  printable = c.in-Ok.ensures.printable;
  fresh = c.requires.fresh;
}

pub returns-in-Made-clause-ok : goal.returns-in-Made-clause-ok
returns-in-Made-clause-ok g c =
    let taps = map (λ tap. (goal.RowTap-dyn g (tap.vtable, tap.value)).seen tap.value) c.args.taps.items in
    IfOk-weaker c.made_reply.result _ _
    (λ r is. made_told c.args.request.now (texts c.args.words.now) taps (g.S.Source.held c.args.source.now) (g.S.Source.left c.args.source.now) (g.S.Source.faults c.args.source.now) (g.S.Source.faults c.args.source.now)
    r c.args.self.now.options.now (sym c.in-Made.is ∙ c.asked.ensures) c.requires.same is)
    c.made_reply.ensures.ok

pub returns-in-Sniffed-clause-ok : goal.returns-in-Sniffed-clause-ok
returns-in-Sniffed-clause-ok g c =
    let o = c.args.self.now.options.now in
    let taps = map (λ tap. (goal.RowTap-dyn g (tap.vtable, tap.value)).seen tap.value) c.args.taps.items in
    IfOk-weaker c.sniffed_reply.result _ _
    (λ r told. asked_told c.args.request.now (texts c.args.words.now) taps (g.S.Source.held c.args.source.now) (g.S.Source.left c.sniffed_reply.new.source) (g.S.Source.faults c.args.source.now) (g.S.Source.faults c.sniffed_reply.new.source)
    r asks.Sniffed c.args.self.now.options.now (sym c.in-Sniffed.is ∙ c.asked.ensures) c.requires.same
    (subst (λ word. IsReplyBy o.max_input (opened_reply (sniffed_reply o) o.max_input) (word ∷ []) (g.S.Source.held c.args.source.now) (g.S.Source.left c.sniffed_reply.new.source)
    (g.S.Source.faults c.args.source.now) (g.S.Source.faults c.sniffed_reply.new.source) r) c.word_at-word.ensures told))
    c.sniffed_reply.ensures.ok

pub returns-in-Split-clause-ok : goal.returns-in-Split-clause-ok
returns-in-Split-clause-ok g c =
    let taps = map (λ tap. (goal.RowTap-dyn g (tap.vtable, tap.value)).seen tap.value) c.args.taps.items in
    IfOk-weaker c.split_reply.result _ _
    (λ r told. asked_told c.args.request.now (texts c.args.words.now) taps (g.S.Source.held c.args.source.now) (g.S.Source.left c.split_reply.new.source) (g.S.Source.faults c.args.source.now) (g.S.Source.faults c.split_reply.new.source)
    r asks.Split c.args.self.now.options.now (sym c.in-Split.is ∙ c.asked.ensures) c.requires.same told)
    c.split_reply.ensures.ok

pub returns-in-Ok-clause-ok : goal.returns-in-Ok-clause-ok
returns-in-Ok-clause-ok g c =
    let o = c.args.self.now.options.now in
    let answer = c.in-Loaded.answer in
    let several = c.in-Loaded.several in
    let held = g.S.Source.held c.args.source.now in
    let left = g.S.Source.left c.load_files.new.source in
    let before = g.S.Source.faults c.args.source.now in
    let after = g.S.Source.faults c.load_files.new.source in
    let files = c.in-Ok.files in
    let taps = map (λ tap. (goal.RowTap-dyn g (tap.vtable, tap.value)).seen tap.value) c.args.taps.items in
    IfOk-weaker c.load_reply.result _ _
    (λ r is. asked_told c.args.request.now (texts c.args.words.now) taps held left before after r (asks.Loaded answer several) o (sym c.in-Loaded.is ∙ c.asked.ensures) c.requires.same
    (subst (λ word. IsReplyBy o.max_input (opened_reply (inputs_reply answer o (names_of several word) taps) o.max_input) (names_of several word) held left before after r) c.word_at-word.ensures
    (loaded_told o.max_input held (names_of several c.word_at-word.result.now) left before after r answer o files.sniffed taps files.load is c.in-Ok.ensures.ok refl)))
    c.load_reply.ensures.ok

pub returns-in-Err-clause-ok : goal.returns-in-Err-clause-ok
returns-in-Err-clause-ok g c =
    let o = c.args.self.now.options.now in
    let answer = c.in-Loaded.answer in
    let several = c.in-Loaded.several in
    let held = g.S.Source.held c.args.source.now in
    let left = g.S.Source.left c.load_files.new.source in
    let before = g.S.Source.faults c.args.source.now in
    let after = g.S.Source.faults c.load_files.new.source in
    let stop = c.in-Err.stop in
    let names = names_of several c.word_at-word.result.now in
    let taps = map (λ tap. (goal.RowTap-dyn g (tap.vtable, tap.value)).seen tap.value) c.args.taps.items in
    IfOk-weaker c.stopped_reply.result _ _
    (λ r is. asked_told c.args.request.now (texts c.args.words.now) taps held left before after r (asks.Loaded answer several) o (sym c.in-Loaded.is ∙ c.asked.ensures) c.requires.same
    (subst (λ word. IsReplyBy o.max_input (opened_reply (inputs_reply answer o (names_of several word) taps) o.max_input) (names_of several word) held left before after r) c.word_at-word.ensures
    (stopped_told o.max_input held names left before after r (inputs_reply answer o names taps) stop is
    (λ e. c.load_files.ensures.too_large (c.in-Err.is ∙ ap (λ s. Err s) e)) (λ e. c.load_files.ensures.failed (c.in-Err.is ∙ ap (λ s. Err s) e)))))
    c.stopped_reply.ensures.ok
