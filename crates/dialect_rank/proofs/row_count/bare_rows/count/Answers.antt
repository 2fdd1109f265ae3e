use Rattle.std.proofs.Common.{◌∙◌, ap}
use Rattle.std.specs.Prelude.{◌==◌}
use Rattle.std.specs.Int.RustNames.{count_ones}
use Rattle.std.proofs.lemmas.Simd.{ones-mask_l}
use Rattle.dialect_rank.proofs.row_count.bare_rows.count.Goals as goal

pub returns : goal.returns
returns c = c.ones.ensures ∙ ap count_ones c.wide_equal_to.ensures.mask ∙ ones-mask_l (λ b. b == c.args.byte) c.args.lanes
