use Rattle.std.proofs.Common.{eqb, arith, w8}
use Rattle.std.proofs.lemmas.Simd.{bitmask_splat}
use Rattle.byte_classes.proofs.BitLaws.{has_bits}
use Rattle.byte_classes.proofs.wide_lanes.wide_equal_to.Goals as goal

pub returns-clause-mask : goal.returns-clause-mask
returns-clause-mask c = bitmask_splat w8 eqb c.args.lanes 64 c.args.byte c.fits-lanes.0 (omega arith)

pub returns-clause-bits : goal.returns-clause-bits
returns-clause-bits c = has_bits (λ b. eqb b c.args.byte) c.args.lanes _ c.fits-lanes.0 (returns-clause-mask c)
