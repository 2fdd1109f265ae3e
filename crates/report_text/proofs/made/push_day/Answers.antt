use Rattle.std.proofs.Common.{◌+◌, ◌/◌, ◌%◌, ◌++◌, ap, ◌∙◌, arith}
use Rattle.std.proofs.lemmas.Result.{on_ok_weaker}
use Rattle.report_text.proofs.TwoDigits.{day_text}
use Rattle.report_text.proofs.made.push_day.Goals as goal

pub returns : goal.returns
returns c =
    let x = c.args.x in
    on_ok_weaker c.append.result (λ is. is
    ∙ ap (λ xs. c.args.into.now.text ++ xs)
    (day_text (1 + x / 2 % 12) (1 + x / 32 % 28) _ _ _ _ (omega arith) (omega arith) c.glyph.ensures c.glyph-2.ensures c.glyph-3.ensures c.glyph-4.ensures)) c.append.ensures.ok
