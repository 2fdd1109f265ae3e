use Rattle.std.proofs.Common.{◌+◌, List, ℕ, drop, arith, subst}
use Rattle.csv_source.specs.Shown.{shown}
use Rattle.text_pieces.specs.Writes.{HasWritten}
use Rattle.text_pieces.proofs.WriteSteps.{last_written, more_written, told_on}
use Rattle.report_text.proofs.RunTexts.{byte_ahead, run_ahead, run_last}
use Rattle.report_text.proofs.shown.write_shown.Goals as goal

pub returns-in_err-write_text : goal.returns-in_err-write_text
returns-in_err-write_text g c =
    let bytes : List ℕ = c.args.bytes.now in
    let at : ℕ = c.loop-end.at in
    let end : ℕ = c.loop-end.end in
    told_on c.from_residual.result _ (shown (drop end bytes)) c.from_residual.ensures.0 c.loop-end.invariant.has (run_ahead bytes at end c.loop-end.invariant.run) c.in_err-write_text.ensures

pub returns-in_err-write_shown_byte : goal.returns-in_err-write_shown_byte
returns-in_err-write_shown_byte g c =
    let bytes : List ℕ = c.args.bytes.now in
    let at : ℕ = c.loop-end.at in
    let end : ℕ = c.loop-end.end in
    told_on c.from_residual-in_err-write_shown_byte.result _ (shown (drop (end + 1) bytes)) c.from_residual-in_err-write_shown_byte.ensures.0
    (more_written _ (shown (drop end bytes)) c.loop-end.invariant.has (run_ahead bytes at end c.loop-end.invariant.run) c.in_ok-write_text.ensures)
    (byte_ahead bytes end c.loop-end-test.true) c.in_err-write_shown_byte.ensures

pub loop-end-preserved : goal.loop-end-preserved
loop-end-preserved g c =
    let bytes : List ℕ = c.args.bytes.now in
    let at : ℕ = c.loop-end.at in
    let end : ℕ = c.loop-end.end in
    record {
      ordered = omega (arith, c.run_end-end-in-loop-end.ensures.value);
      within = c.run_end-end-in-loop-end.ensures.within;
      run = c.run_end-end-in-loop-end.ensures.value;
      has =
          more_written _ (shown (drop (end + 1) bytes))
          (more_written _ (shown (drop end bytes)) c.loop-end.invariant.has (run_ahead bytes at end c.loop-end.invariant.run) c.in_ok-write_text.ensures)
          (byte_ahead bytes end c.loop-end-test.true) c.in_ok-write_shown_byte.ensures;
    }

-- the run from the last place on ends with the bytes
pub returns : goal.returns
returns g c =
    let bytes : List ℕ = c.args.bytes.now in
    let at : ℕ = c.loop-end.at in
    last_written c.write_text-2.result
    (subst (HasWritten _ _ _ _ (shown bytes)) (run_last bytes at c.loop-end.end c.loop-end.invariant.run c.loop-end-test.false) c.loop-end.invariant.has)
    c.write_text-2.ensures
