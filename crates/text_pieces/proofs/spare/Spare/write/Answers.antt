use Rattle.std.proofs.Common.{◌≡◌, ◌+◌, ◌++◌, ℕ, ap, sym, ◌∙◌, arith, subst}
use Rattle.std.specs.Prelude.{slice_range}
use Rattle.std.specs.List.{concat}
use Rattle.text_pieces.specs.Writes.{HasWritten}
use Rattle.text_pieces.proofs.RoundSteps.{round-first, round-over, round-split}
use Rattle.text_pieces.proofs.WriteSteps.{all_written, more_written, told_on}
use Rattle.text_pieces.proofs.spare.Spare.write.Goals as goal

pub returns-in_err-write_text : goal.returns-in_err-write_text
returns-in_err-write_text g c =
    let lines = g.T.RowLines.lines c.args.rows.now in
    let end : ℕ = c.make-end.result in
    let made : concat (slice_range lines c.loop-at.at end) ≡ c.as_slice.result.now = sym (c.as_slice.ensures ∙ c.make-end.ensures.text) in
    told_on {whole = concat (slice_range lines c.args.from c.args.to)} {xs = c.as_slice.result.now} c.from_residual.result _ (concat (slice_range lines end c.args.to)) c.from_residual.ensures.0 c.loop-at.invariant.text
    (round-split lines c.loop-at.at end c.args.to c.make-end.ensures.ordered c.make-end.ensures.within ∙ ap (λ text. text ++ concat (slice_range lines end c.args.to)) made) c.in_err-write_text.ensures

pub loop-at-preserved-then-end-at : goal.loop-at-preserved-then-end-at
loop-at-preserved-then-end-at g c =
    let lines = g.T.RowLines.lines c.args.rows.now in
    let end : ℕ = c.make-end.result in
    let made : concat (slice_range lines c.loop-at.at end) ≡ c.as_slice.result.now = sym (c.as_slice.ensures ∙ c.make-end.ensures.text) in
    record {
      after = omega (arith, c.make-end.ensures.ordered, c.loop-at.invariant.after);
      within = c.make-end.ensures.within;
      text = more_written {whole = concat (slice_range lines c.args.from c.args.to)} {xs = c.as_slice.result.now} _ (concat (slice_range lines end c.args.to)) c.loop-at.invariant.text
          (round-split lines c.loop-at.at end c.args.to c.make-end.ensures.ordered c.make-end.ensures.within ∙ ap (λ text. text ++ concat (slice_range lines end c.args.to)) made) c.in_ok-write_text.ensures;
    }

pub returns-in_err-write_line : goal.returns-in_err-write_line
returns-in_err-write_line g c =
    let lines = g.T.RowLines.lines c.args.rows.now in
    let at : ℕ = c.loop-at.at in
    told_on {whole = concat (slice_range lines c.args.from c.args.to)} c.from_residual-in_err-write_line.result _ (concat (slice_range lines (at + 1) c.args.to)) c.from_residual-in_err-write_line.ensures.0 c.loop-at.invariant.text
    (round-first lines at c.args.to c.loop-at-test.true (omega (arith, c.loop-at-test.true, c.requires.within))) c.in_err-write_line.ensures

pub loop-at-preserved : goal.loop-at-preserved
loop-at-preserved g c =
    let lines = g.T.RowLines.lines c.args.rows.now in
    let at : ℕ = c.loop-at.at in
    record {
      after = omega (arith, c.loop-at.invariant.after);
      within = omega (arith, c.loop-at-test.true);
      text = more_written {whole = concat (slice_range lines c.args.from c.args.to)} _ (concat (slice_range lines (at + 1) c.args.to)) c.loop-at.invariant.text
          (round-first lines at c.args.to c.loop-at-test.true (omega (arith, c.loop-at-test.true, c.requires.within))) c.in_ok-write_line.ensures;
    }

pub returns : goal.returns
returns g c =
    let lines = g.T.RowLines.lines c.args.rows.now in
    let before = c.loop-at.invariant in
    all_written _ (subst (HasWritten _ _ _ _ (concat (slice_range lines c.args.from c.args.to))) (round-over lines c.loop-at.at c.args.to (omega (arith, before.within, c.loop-at-test.false))) before.text)
