use Rattle.std.proofs.Common.{◌∙◌, ◌+◌, ◌++◌, ap, sym, take, arith, [], ◌∷◌}
use Rattle.std.proofs.lemmas.Fmt.{decimal_digit}
use Rattle.std.proofs.lemmas.List.{take_more_set}
use Rattle.std.proofs.Math.Nat.{add_comm}
use Rattle.std.specs.Fmt.{decimal}
use Rattle.value_types.proofs.PrintedBlocks.{digits_block}
use Rattle.value_types.proofs.printing.number.put_magnitude.Goals as goal

pub returns-then-number-lt10-clause-text : goal.returns-then-number-lt10-clause-text
returns-then-number-lt10-clause-text c =
    take_more_set c.args.into.now c.args.at (c.args.number + 48) (omega (arith, c.requires.room))
    ∙ ap (λ b. take c.args.at c.args.into.now ++ b ∷ []) (add_comm c.args.number 48)
    ∙ ap (λ t. take c.args.at c.args.into.now ++ t) (sym (decimal_digit c.args.number c.if-number-lt10.true))

pub returns-then-number-lt10000-clause-text : goal.returns-then-number-lt10000-clause-text
returns-then-number-lt10000-clause-text c =
    let few = c.few_digits-word in
    let is = digits_block c.args.number few.result.1 c.from.result (omega (arith, c.if-number-lt10000.true)) (c.from.ensures ∙ few.ensures.value) few.ensures.count (omega (arith, few.ensures.short)) in
    c.put_block.ensures.text (decimal c.args.number) is.is is.long

pub returns-then-number-lt10000000-clause-text : goal.returns-then-number-lt10000000-clause-text
returns-then-number-lt10000000-clause-text c =
    let front = c.digits-word in
    let is = digits_block c.args.number front.result.1 c.from-then-number-lt10000000.result (omega (arith, c.if-number-lt10000000.true)) (c.from-then-number-lt10000000.ensures ∙ front.ensures.value) front.ensures.count front.ensures.short in
    c.put_block-then-number-lt10000000.ensures.text (decimal c.args.number) is.is is.long
