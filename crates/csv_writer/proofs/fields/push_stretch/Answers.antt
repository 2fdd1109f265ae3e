use Rattle.std.proofs.Common.{◌-◌, ◌∷◌, [], ◌∙◌, arith}
use Rattle.std.specs.Prelude.{slice_range}
use Rattle.value_types.proofs.PrintSteps.{behind_both}
use Rattle.csv_writer.proofs.Doubling.{quote_doubled, run_doubled, run_stops}
use Rattle.csv_writer.proofs.fields.push_stretch.Goals as goal

pub returns-then-end-text-clause-ok : goal.returns-then-end-text-clause-ok
returns-then-end-text-clause-ok c =
    let at = c.args.at in
    let end = c.quote_place-end.result in
    let text = c.args.text.now in
    record {
      on = omega (arith, c.requires.within, c.if-end-text.true);
      within = c.quote_place-end.ensures.within;
      same = run_doubled c.args.into.now.text c.append_run.new.self.text text at end (end - at) (omega (arith, c.quote_place-end.ensures.value)) (omega (arith, c.quote_place-end.ensures.value)) c.in_ok-append_run.ensures.ok;
      behind = (slice_range text at end, c.in_ok-append_run.ensures.ok);
    }

pub returns-clause-ok : goal.returns-clause-ok
returns-clause-ok c =
    let at = c.args.at in
    let end = c.quote_place-end.result in
    let text = c.args.text.now in
    let old = c.args.into.now.text in
    let new = c.append_run.new.self.text in
    let newer = c.append.new.self.text in
    record {
      on = omega (arith, c.quote_place-end.ensures.value);
      within = omega (arith, c.quote_place-end.ensures.within, c.if-end-text.false);
      same =
          quote_doubled new newer text end (omega (arith, c.quote_place-end.ensures.within, c.if-end-text.false))
          (run_stops text at end c.quote_place-end.ensures.value (omega (arith, c.quote_place-end.ensures.within, c.if-end-text.false))) c.in_ok-append.ensures.ok
          ∙ run_doubled old new text at end (end - at) (omega (arith, c.quote_place-end.ensures.value)) (omega (arith, c.quote_place-end.ensures.value)) c.in_ok-append_run.ensures.ok;
      behind = behind_both old new newer (slice_range text at end) c.in_ok-append_run.ensures.ok (34 ∷ 34 ∷ [], c.in_ok-append.ensures.ok);
    }
