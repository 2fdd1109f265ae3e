use Rattle.std.proofs.Common.{◌+◌, ap, arith, subst, ◌∙◌}
use Rattle.std.specs.Prelude.{slice_range}
use Rattle.std.proofs.lemmas.List.{length-map}
use Rattle.text_pieces.specs.Writes.{Writes}
use Rattle.part_tests.proofs.LetterLines.{letter-at, letter_line}
use Rattle.part_tests.proofs.tests.text_pieces_rowed.LettersRowLines.write_line.Goals as goal

pub returns : goal.returns
returns g c =
    let letters = c.args.self.now.letters.items in
    let row = c.args.row in
    subst (Writes (g.K.Sink.taken c.args.sink.now) (g.K.Sink.taken c.write_text.new.sink) (g.K.Sink.faults c.args.sink.now) (g.K.Sink.faults c.write_text.new.sink) c.write_text.result)
    (ap (λ xs. slice_range xs row (row + 1)) c.deref.ensures.value ∙ letter-at letters row (omega (arith, c.requires.within, length-map letters letter_line)))
    c.write_text.ensures
