use Rattle.std.proofs.Common.{get_or, ◌∙◌}
use Rattle.std.specs.Prelude.{◌==◌}
use Rattle.byte_classes.specs.Places.{first_place}
use Rattle.byte_classes.proofs.SpecialLaws.{thrice}
use Rattle.byte_classes.proofs.special.next_byte.Goals as goal

pub returns : goal.returns
returns c = c.next_mark.ensures ∙ (λ i. first_place (λ r. thrice (get_or c.args.bytes.now r 0 == c.args.byte) i) c.args.from c.args.bytes.now)
