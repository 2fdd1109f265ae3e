use Rattle.std.proofs.Common.{◌%◌, ◌∙◌, ap}
use Rattle.std.specs.Prelude.{◌==◌}
use Rattle.std.specs.Int.RustNames.{count_ones}
use Rattle.dialect_rank.proofs.FrontLanes.{ones_front, power_fits}
use Rattle.dialect_rank.proofs.row_count.bare_rows.count_first.Goals as goal

pub returns : goal.returns
returns c =
    c.ones.ensures ∙ ap (λ n. count_ones (c.wide_equal_to.result % n)) (power_fits c.args.first c.requires)
    ∙ ones_front (λ b. b == c.args.byte) c.args.lanes c.args.first c.wide_equal_to.result c.wide_equal_to.ensures.mask
