use Rattle.std.proofs.Common.{◌^◌, ◌<◌, bit_and, arith}
use Rattle.std.proofs.lemmas.Nat.{and_le_l, or_lt}
use Rattle.quote_automaton.proofs.CountedBits.{bit_is, both_is, either_is, neither_is}
use Rattle.quote_automaton.proofs.quote_bits.row_starts.Goals as goal

pub returns : goal.returns
returns c i lt =
    let inside = c.args.inside in
    let lf = c.args.lf in
    let behind_cr = c.args.behind_cr in
    let pair : bit_and lf behind_cr < 2 ^ 64 = (let le = and_le_l lf behind_cr in let fits = c.ranges.lf.fits in omega (arith, le, fits)) in
    both_is c.args.behind_line_ends _ i _ _ (bit_is c.args.behind_line_ends i)
    (neither_is _ i _ (or_lt 64 inside (bit_and lf behind_cr) c.ranges.inside.fits pair) lt
    (either_is inside (bit_and lf behind_cr) i _ _ (bit_is inside i) (both_is lf behind_cr i _ _ (bit_is lf i) (bit_is behind_cr i))))
