use Rattle.std.proofs.Common.{◌∙◌, ◌∷◌, [], ◌++◌, drop, ap, arith}
use Rattle.std.specs.Prelude.{filter, string_bytes}
use Rattle.std.proofs.lemmas.List.{length-map}
use Rattle.loader_reply.specs.FurtherWords.{is_further}
use Rattle.loader_reply.specs.Reply.{texts}
use Rattle.loader_reply.proofs.FurtherSteps.{one_further}
use Rattle.loader_reply.proofs.further_words.further_words.Goals as goal

pub loop-place-preserved : goal.loop-place-preserved
loop-place-preserved c =
    let words = texts c.args.words.now in
    let made = c.loop-place.further in
    one_further is_further words (filter is_further (drop 2 words)) made c.loop-place.place c.loop-place.invariant
    (omega (arith, c.loop-place-test.true, length-map c.args.words.now string_bytes)) c.push_further.new.further
    (c.in_ok-push_further.ensures.ok ∙ ap (λ word. made ++ filter is_further (word ∷ [])) c.word_at.ensures)
