use Rattle.std.proofs.Common.{arith}
use Rattle.value_types.proofs.KeptTypes.{keeps_by_date}
use Rattle.value_types.proofs.possible_types.PossibleTypes.only.Goals as goal

pub returns-in-false-true-false-default : goal.returns-in-false-true-false-default
returns-in-false-true-false-default c text is =
    let found = c.in-false-true-false-default in
    keeps_by_date c.args.self.now text (grind (arith, c.if-not-self.false)) found.is-0 c.if-self.false found.is-1 found.is-2 is
