use Rattle.std.proofs.Common.{ap₂, ◌∙◌, bit_and, bit_or}
use Rattle.std.proofs.lemmas.Simd.{zip2_splat}
use lib.Lanes.{zip2}
use Rattle.byte_classes.proofs.LineMasks.{bit_of_end, joined_ends}
use Rattle.byte_classes.proofs.line_ends.ends_in_lanes.Goals as goal

pub returns : goal.returns
returns c =
    let here = c.args.here in
    let before = c.args.before in
    bit_of_end here before _ c.fits-here.0 c.fits-before.0
    (ap₂ (zip2 bit_or) (zip2_splat _ here 64 13 c.fits-here.0) (ap₂ (zip2 bit_and) (zip2_splat _ here 64 10 c.fits-here.0) (zip2_splat _ before 64 13 c.fits-before.0))
    ∙ joined_ends here before)
