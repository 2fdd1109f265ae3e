use Rattle.std.proofs.Common.{sym, subst, List}
use Rattle.part_cuts.specs.declared.tally.Tally.{Tally}
use Rattle.part_cuts.specs.Within.{Ascends}
use Rattle.part_cuts.proofs.PlaceOrder.{ascends_more}
use Rattle.part_cuts.proofs.cuts.Cuts.begin.Goals as goal

pub invariant_of-self-2 : goal.invariant_of-self-2
invariant_of-self-2 c =
    (c.self.invariant.0, c.self.invariant.1, subst (λ (l : List Tally). Ascends l c.self.inside.tally) (sym c.in_ok-push.ensures.items) (ascends_more c.self.inside.starts.items c.self.inside.tally c.self.invariant.2))
