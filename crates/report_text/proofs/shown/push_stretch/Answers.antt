use Rattle.std.proofs.Common.{◌-◌, ◌∙◌, arith}
use Rattle.report_text.proofs.RunTexts.{byte_text, run_text}
use Rattle.report_text.proofs.shown.push_stretch.Goals as goal

pub returns-then-end-bytes : goal.returns-then-end-bytes
returns-then-end-bytes c =
    let at = c.args.at in
    let end = c.run_end-end.result in
    let bytes = c.args.bytes.now in
    let value = c.run_end-end.ensures.value in
    record {
      ok = record {
        on = omega (arith, c.requires.within, c.if-end-bytes.true);
        within = c.run_end-end.ensures.within;
        text = run_text c.args.into.now.text c.append_run.new.self.text bytes at end (end - at) (omega (arith, value)) (omega (arith, value)) c.in_ok-append_run.ensures.ok;
      };
    }

pub returns : goal.returns
returns c =
    let at = c.args.at in
    let end = c.run_end-end.result in
    let bytes = c.args.bytes.now in
    let value = c.run_end-end.ensures.value in
    let pushed = c.append_run.new.self.text in
    record {
      ok = record {
        on = omega (arith, value);
        within = omega (arith, c.run_end-end.ensures.within, c.if-end-bytes.false);
        text =
            byte_text pushed c.push_shown_byte.new.into.text bytes end (omega (arith, c.run_end-end.ensures.within, c.if-end-bytes.false)) c.in_ok-push_shown_byte.ensures
            ∙ run_text c.args.into.now.text pushed bytes at end (end - at) (omega (arith, value)) (omega (arith, value)) c.in_ok-append_run.ensures.ok;
      };
    }
