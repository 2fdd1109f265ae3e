use Rattle.std.proofs.Common.{◌++◌, refl, subst, arith}
use Rattle.std.specs.Prelude.{slice_range}
use Rattle.text_pieces.specs.Writes.{Writes}
use Rattle.text_pieces.proofs.WriteSteps.{last_written, more_written, none_written}
use Rattle.csv_writer.specs.Quoting.{quote_at}
use Rattle.csv_writer.proofs.StraightSteps.{quote-at}
use Rattle.csv_writer.proofs.straight.write_stretch.Goals as goal

pub returns : goal.returns
returns g c =
    let text = c.args.text.now in
    let run = slice_range text c.args.at c.args.end in
    let quote = quote_at c.args.end text in
    last_written c.write_text-2.result (more_written _ quote (none_written (g.K.Sink.taken c.args.sink.now) (g.K.Sink.faults c.args.sink.now) (run ++ quote)) refl c.in_ok-write_text.ensures)
    (subst (Writes _ _ _ _ c.write_text-2.result) (quote-at c.args.end text (λ e. omega (arith, e, c.if-end-text.false))) c.write_text-2.ensures)
