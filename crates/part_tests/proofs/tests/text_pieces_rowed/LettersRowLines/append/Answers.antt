use Rattle.std.proofs.Common.{◌≡◌, ◌++◌, ◌∙◌, ap, subst, sym}
use Rattle.std.specs.Prelude.{OnOk, slice_range}
use Rattle.part_tests.proofs.LetterLines.{letters-range}
use Rattle.part_tests.proofs.tests.text_pieces_rowed.LettersRowLines.append.Goals as goal

pub returns : goal.returns
returns c =
    record { ok = subst (λ text. OnOk c.append.result (c.append.new.self.text ≡ c.args.into.now.text ++ text)) (ap (λ letters. slice_range letters c.args.from c.args.to) c.deref.ensures.value ∙ sym (letters-range c.args.self.now.letters.items c.args.from c.args.to)) c.append.ensures.ok }
