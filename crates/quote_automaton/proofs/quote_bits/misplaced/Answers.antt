use Rattle.quote_automaton.proofs.CountedBits.{misplaced_is}
use Rattle.quote_automaton.proofs.quote_bits.misplaced.Goals as goal

pub returns : goal.returns
returns c i lt =
    misplaced_is c.args.inside c.args.comments c.args.behind_quotes c.args.behind_ends c.args.quotes c.args.ends i
    c.ranges.inside.fits c.ranges.behind_quotes.fits c.ranges.behind_ends.fits c.ranges.quotes.fits c.ranges.ends.fits lt
