use Rattle.std.proofs.Common.{◌≢◌, ◌∙◌, sym, ap, arith}
use Rattle.std.proofs.lemmas.Simd.{leading_from_mask_l, trailing_mask_l}
use lib.Count.{count_trailing_zeros}
use lib.Lanes.{mask_l}
use Rattle.std.specs.Prelude.{map}
use Rattle.byte_classes.specs.Special.{is_one_of}
use Rattle.dialect_rank.proofs.row_count.bare_rows.bare_run.Goals as goal

pub returns-then-found-eq0 : goal.returns-then-found-eq0
returns-then-found-eq0 c =
    let p = is_one_of 10 13 c.args.quote in
    sym (leading_from_mask_l p c.args.lanes (sym c.wide_equal_to_one_of-found.ensures.mask ∙ c.if-found-eq0.true) ∙ c.fits-lanes.0)

pub returns-else-found-eq0 : goal.returns-else-found-eq0
returns-else-found-eq0 c =
    let p = is_one_of 10 13 c.args.quote in
    let is = c.wide_equal_to_one_of-found.ensures.mask in
    let apart : mask_l (map p c.args.lanes) ≢ 0 = λ e. c.if-found-eq0.false (is ∙ e) in
    ap (count_trailing_zeros 64) is ∙ trailing_mask_l p 64 c.args.lanes (omega (arith, c.fits-lanes.0)) (omega (arith, apart))
