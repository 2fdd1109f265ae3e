use Rattle.std.proofs.Common.{◌+◌, drop, subst, arith}
use Rattle.text_pieces.specs.Writes.{HasWritten}
use Rattle.text_pieces.proofs.WriteSteps.{all_written, more_written, told_on}
use Rattle.csv_writer.specs.Quoting.{doubled}
use Rattle.csv_writer.proofs.StraightSteps.{doubled-none, doubled-stretch}
use Rattle.csv_writer.proofs.straight.write_doubled.Goals as goal

pub returns-in_err-write_stretch : goal.returns-in_err-write_stretch
returns-in_err-write_stretch g c =
    let text = c.args.text.now in
    let end = c.quote_place-end.result in
    told_on c.from_residual.result _ (doubled (drop (end + 1) text)) c.from_residual.ensures.0 c.loop-at.invariant
    (doubled-stretch text c.loop-at.at end c.quote_place-end.ensures.value c.quote_place-end.ensures.within) c.in_err-write_stretch.ensures

pub loop-at-preserved : goal.loop-at-preserved
loop-at-preserved g c =
    let text = c.args.text.now in
    let end = c.quote_place-end.result in
    more_written _ (doubled (drop (end + 1) text)) c.loop-at.invariant
    (doubled-stretch text c.loop-at.at end c.quote_place-end.ensures.value c.quote_place-end.ensures.within) c.in_ok-write_stretch.ensures

pub returns : goal.returns
returns g c =
    let text = c.args.text.now in
    all_written _ (subst (HasWritten _ _ _ _ (doubled text)) (doubled-none text c.loop-at.at (omega (arith, c.loop-at-test.false))) c.loop-at.invariant)
