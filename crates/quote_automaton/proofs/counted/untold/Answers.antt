use Rattle.std.proofs.Common.{ℕ, cond, not, ◌&&◌, ◌||◌, sym, ◌∙◌}
use Rattle.quote_automaton.specs.Counted.{is_set}
use Rattle.quote_automaton.proofs.CountedBits.{bit_is, either_is}
use Rattle.quote_automaton.proofs.counted.untold.Goals as goal

pub returns-in-None : goal.returns-in-None
returns-in-None c i lt =
    either_is c.args.inside c.args.quotes i _ _ (bit_is c.args.inside i) (bit_is c.args.quotes i)
    ∙ (λ j. cond {A = ℕ} (not (sym c.in-None.ensures.value j) && (is_set c.args.inside i || is_set c.args.quotes i)) 1 0)
