use Rattle.std.proofs.Common.{subst}
use lib.Bits.{bit_or}
use Rattle.byte_classes.specs.Masks.{HasBits}
use Rattle.byte_classes.specs.Special.{is_one_of}
use Rattle.quote_automaton.proofs.CountedBits.{either_is}
use Rattle.quote_automaton.proofs.counted.separators.Goals as goal

pub returns : goal.returns
returns c =
    let lf = c.places_of.result in
    let cr = c.places_of-2.result in
    let delims = c.places_of-3.result in
    subst (λ delim. HasBits (is_one_of 10 13 delim) c.args.block.now (bit_or (bit_or lf cr) delims)) c.delim.ensures
    (λ i lt. either_is (bit_or lf cr) delims i _ _ (either_is lf cr i _ _ (c.places_of.ensures i lt) (c.places_of-2.ensures i lt)) (c.places_of-3.ensures i lt))
