use Rattle.std.proofs.Common.{◌∙◌, ◌++◌, arith, refl}
use Rattle.std.specs.Fmt.{decimal}
use Rattle.value_types.proofs.PrintedBlocks.{longer_block}
use Rattle.value_types.proofs.printing.number.put_digits.Goals as goal

pub returns-clause-text : goal.returns-clause-text
returns-clause-text c text behind long =
    let front = c.digits-word in
    let is = longer_block c.args.front text c.args.behind.1 front.result.1 c.from.result c.from-2.result _ c.requires.front
    (record { short = behind.short; bytes = behind.bytes; makes = c.from-2.ensures ∙ behind.makes }) long c.requires.more (omega (arith, c.from-2.ensures))
    (c.from.ensures ∙ front.ensures.value) front.ensures.count front.ensures.short refl in
    c.put_block.ensures.text (decimal c.args.front ++ text) is.is is.long
