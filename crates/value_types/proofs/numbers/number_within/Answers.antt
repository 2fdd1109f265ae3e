use Rattle.std.proofs.Common.{sym, ◌∙◌, arith}
use Rattle.value_types.proofs.Magnitudes.{with_digits-end, with_digits-over, with_digits-within}
use Rattle.value_types.proofs.numbers.number_within.Goals as goal

pub returns-then-next-from : goal.returns-then-next-from
returns-then-next-from c =
    sym (with_digits-over c.args.most c.args.text.now c.loop-place.place c.loop-place.value c.from-in-loop-place.result (omega arith) c.from-in-loop-place.ensures (omega (arith, c.if-next-from.true)))
    ∙ c.loop-place.invariant.0 ∙ with_digits-within c.args.most c.args.text.now

pub returns : goal.returns
returns c =
    sym (with_digits-end c.args.most c.loop-place.value c.loop-place.place c.args.text.now (omega (arith, c.loop-place-test.false)))
    ∙ c.loop-place.invariant.0 ∙ with_digits-within c.args.most c.args.text.now
