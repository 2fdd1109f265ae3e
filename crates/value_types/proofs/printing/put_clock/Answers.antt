use Rattle.std.proofs.Common.{arith}
use Rattle.value_types.specs.ValueText.{time_text}
use Rattle.value_types.proofs.PrintedBlocks.{clock_block, clock_from, fraction_block}
use Rattle.value_types.proofs.printing.put_clock.Goals as goal

pub returns-then-fraction-eq0-clause-text : goal.returns-then-fraction-eq0-clause-text
returns-then-fraction-eq0-clause-text c =
    let clock = clock_from c.args.micros c.pair.result c.pair-2.result c.pair-3.result _ c.requires.day c.pair.ensures.value c.pair-2.ensures.value c.pair-3.ensures.value (omega (arith, c.from.ensures, c.from-2.ensures)) in
    let is = clock_block c.args.micros _ c.block.result clock (omega (arith, c.if-fraction-eq0.true)) c.block.ensures in
    c.put_block.ensures.text (time_text c.args.micros) is.is is.long

pub returns-clause-text : goal.returns-clause-text
returns-clause-text c =
    let clock = clock_from c.args.micros c.pair.result c.pair-2.result c.pair-3.result _ c.requires.day c.pair.ensures.value c.pair-2.ensures.value c.pair-3.ensures.value (omega (arith, c.from.ensures, c.from-2.ensures)) in
    let is = fraction_block c.args.micros _ _ c.pair-4.result c.pair-5.result c.pair-6.result c.block-2.result clock (λ e. (let no : ⊥ = omega arith in no))
    c.pair-4.ensures.value c.pair-5.ensures.value c.pair-6.ensures.value (omega (arith, c.from-3.ensures)) c.block-2.ensures in
    c.put_block-2.ensures.text (time_text c.args.micros) is.is is.long
