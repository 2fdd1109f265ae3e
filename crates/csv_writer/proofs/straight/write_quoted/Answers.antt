use Rattle.std.proofs.Common.{◌++◌, ◌∷◌, [], refl}
use Rattle.text_pieces.proofs.WriteSteps.{last_written, more_written, none_written, told_on}
use Rattle.csv_writer.specs.Quoting.{doubled, quoted}
use Rattle.csv_writer.proofs.straight.write_quoted.Goals as goal

pub returns-in_err-write_doubled : goal.returns-in_err-write_doubled
returns-in_err-write_doubled g c =
    let text = c.args.text.now in
    told_on c.from_residual-in_err-write_doubled.result _ (34 ∷ []) c.from_residual-in_err-write_doubled.ensures.0
    (more_written _ (doubled text ++ 34 ∷ []) (none_written (g.K.Sink.taken c.args.sink.now) (g.K.Sink.faults c.args.sink.now) (quoted text)) refl c.in_ok-write_text.ensures)
    refl c.in_err-write_doubled.ensures

pub returns : goal.returns
returns g c =
    let text = c.args.text.now in
    last_written c.write_text-2.result
    (more_written _ (34 ∷ [])
    (more_written _ (doubled text ++ 34 ∷ []) (none_written (g.K.Sink.taken c.args.sink.now) (g.K.Sink.faults c.args.sink.now) (quoted text)) refl c.in_ok-write_text.ensures)
    refl c.in_ok-write_doubled.ensures)
    c.write_text-2.ensures
