use Rattle.std.proofs.Common.{◌∙◌, ◌/◌, ◌%◌, ◌++◌, ℕ, ap, arith, append_assoc, take}
use Rattle.std.specs.Fmt.{decimal}
use Rattle.value_types.specs.ValueText.{padded}
use Rattle.value_types.proofs.PrintedBlocks.{eight_apart, eight_block, four_apart, four_block}
use Rattle.value_types.proofs.printing.number.put_many_digits.Goals as goal

pub returns-clause-text : goal.returns-clause-text
returns-clause-text c =
    let n : ℕ = c.args.number in
    let upper : ℕ = n / 100_000_000 in
    let before = take c.args.at c.args.into.now in
    let four = four_block (upper % 10_000) c.four_digits.result (omega arith) c.four_digits.ensures.value in
    let eight = eight_block (n % 100_000_000) c.from.result (omega arith) (c.from.ensures ∙ c.eight_digits.ensures) in
    c.put_block.ensures.text (padded 8 (n % 100_000_000)) eight.is eight.long
    ∙ ap (λ xs. xs ++ padded 8 (n % 100_000_000)) (c.put_digits-end.ensures.text (padded 4 (upper % 10_000)) four.is four.long)
    ∙ append_assoc before (decimal (upper / 10_000) ++ padded 4 (upper % 10_000)) (padded 8 (n % 100_000_000))
    ∙ ap (λ xs. before ++ xs)
    (ap (λ xs. xs ++ padded 8 (n % 100_000_000)) (four_apart upper (omega (arith, c.requires.many.0)) (omega (arith, c.requires.many.1)))
    ∙ eight_apart n (omega (arith, c.requires.many.0)) (omega (arith, c.requires.many.1)))
