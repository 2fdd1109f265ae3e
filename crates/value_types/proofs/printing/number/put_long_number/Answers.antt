use Rattle.std.proofs.Common.{◌∙◌, ◌%◌, ◌++◌, ℕ, ap, take, arith}
use Rattle.value_types.specs.ValueText.{padded}
use Rattle.value_types.proofs.PrintedBlocks.{eight_apart, eight_block, four_apart, four_block}
use Rattle.value_types.proofs.printing.number.put_long_number.Goals as goal

pub returns-then-number-lt100000000000-clause-text : goal.returns-then-number-lt100000000000-clause-text
returns-then-number-lt100000000000-clause-text c =
    let n : ℕ = c.args.number in
    let is = four_block (n % 10_000) c.four_digits.result (omega arith) c.four_digits.ensures.value in
    c.put_digits.ensures.text (padded 4 (n % 10_000)) is.is is.long
    ∙ ap (λ t. take c.args.at c.args.into.now ++ t) (four_apart n (omega (arith, c.requires.long.0)) (omega (arith, c.requires.long.1)))

pub returns-then-number-lt1000000000000000-clause-text : goal.returns-then-number-lt1000000000000000-clause-text
returns-then-number-lt1000000000000000-clause-text c =
    let n : ℕ = c.args.number in
    let is = eight_block (n % 100_000_000) c.eight_digits.result (omega arith) c.eight_digits.ensures in
    c.put_digits-then-number-lt1000000000000000.ensures.text (padded 8 (n % 100_000_000)) is.is is.long
    ∙ ap (λ t. take c.args.at c.args.into.now ++ t) (eight_apart n (omega (arith, c.if-number-lt100000000000.false)) (omega (arith, c.requires.long.1)))
