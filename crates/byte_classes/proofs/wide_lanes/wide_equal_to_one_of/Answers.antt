use Rattle.std.proofs.lemmas.Simd.{zip2_of_maps, zip2_splat}
use Rattle.byte_classes.specs.Special.{is_one_of}
use Rattle.byte_classes.proofs.BitLaws.{has_bits}
use Rattle.byte_classes.proofs.LaneLaws.{mask_of_joined}
use Rattle.byte_classes.proofs.wide_lanes.wide_equal_to_one_of.Goals as goal

pub returns-clause-mask : goal.returns-clause-mask
returns-clause-mask c =
    let lanes = c.args.lanes in
    let long = c.fits-lanes.0 in
    mask_of_joined c.args.a c.args.b c.args.c lanes _ long
    (zip2_of_maps _ _ _ lanes (zip2_of_maps _ _ _ lanes (zip2_splat _ lanes 64 c.args.a long) (zip2_splat _ lanes 64 c.args.b long)) (zip2_splat _ lanes 64 c.args.c long))

pub returns-clause-bits : goal.returns-clause-bits
returns-clause-bits c = has_bits (is_one_of c.args.a c.args.b c.args.c) c.args.lanes _ c.fits-lanes.0 (returns-clause-mask c)
