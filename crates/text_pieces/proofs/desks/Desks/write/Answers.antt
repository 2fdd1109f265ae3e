use Rattle.std.proofs.Common.{◌≡◌, ℕ, ◌+◌, ◌++◌, ap, arith, subst, sym, ◌∙◌}
use Rattle.std.specs.Prelude.{min, slice_range}
use Rattle.std.specs.List.{concat}
use Rattle.text_pieces.specs.Writes.{HasWritten}
use Rattle.text_pieces.proofs.RoundSteps.{round-over, round-split}
use Rattle.text_pieces.proofs.WriteSteps.{all_written, more_written, told_on}
use Rattle.text_pieces.proofs.desks.Desks.write.Goals as goal

pub returns-in_err-write_block : goal.returns-in_err-write_block
returns-in_err-write_block g c =
    let lines = g.T.RowLines.lines c.args.rows.now in
    let round = c.args.self.now.round in
    let before = c.loop-at.invariant in
    let end : ℕ = min (c.loop-at.at + round.at_once) round.to in
    told_on {whole = concat (slice_range lines round.from round.to)} {xs = concat (slice_range lines c.loop-at.at end)} c.from_residual.result _ (concat (slice_range lines end round.to)) c.from_residual.ensures.0 before.text
    (round-split lines c.loop-at.at end round.to (omega (arith, c.loop-at-test.true)) (omega arith)) c.in_err-write_block.ensures

pub loop-at-preserved : goal.loop-at-preserved
loop-at-preserved g c =
    let lines = g.T.RowLines.lines c.args.rows.now in
    let round = c.args.self.now.round in
    let before = c.loop-at.invariant in
    let end : ℕ = min (c.loop-at.at + round.at_once) round.to in
    let is_end : end ≡ c.end-at.result = sym c.end-at.ensures in
    record {
      after = omega (arith, before.after, is_end, c.loop-at-test.true);
      within = omega (arith, is_end);
      text = more_written {whole = concat (slice_range lines round.from round.to)} {xs = concat (slice_range lines c.loop-at.at end)} _ (concat (slice_range lines c.end-at.result round.to)) before.text
          (round-split lines c.loop-at.at end round.to (omega (arith, c.loop-at-test.true)) (omega arith) ∙ ap (λ n. concat (slice_range lines c.loop-at.at end) ++ concat (slice_range lines n round.to)) is_end) c.in_ok-write_block.ensures;
    }

pub returns : goal.returns
returns g c =
    let lines = g.T.RowLines.lines c.args.rows.now in
    let round = c.args.self.now.round in
    let before = c.loop-at.invariant in
    all_written _ (subst (HasWritten _ _ _ _ (concat (slice_range lines round.from round.to))) (round-over lines c.loop-at.at round.to (omega (arith, before.within, c.loop-at-test.false))) before.text)
