use Rattle.std.proofs.Common.{◌∙◌, sym, ap, length, arith}
use Rattle.std.specs.Prelude.{None}
use Rattle.std.proofs.lemmas.Bool.Decides.{nat_tests}
use Rattle.std.specs.List.{last_or}
use Rattle.std.proofs.lemmas.List.{nil_from_length, take_all}
use Rattle.byte_classes.proofs.LineEndLaws.{last_or-some}
use Rattle.part_cuts.proofs.last_byte.last_byte.Goals as goal

pub returns-then-is_empty : goal.returns-then-is_empty
returns-then-is_empty c = ap (last_or c.args.before) (sym (nil_from_length c.args.bytes.now (grind (arith, nat_tests, c.is_empty.ensures, c.if-is_empty.true))))

pub returns-else-is_empty : goal.returns-else-is_empty
returns-else-is_empty c =
    let bytes = c.args.bytes.now in
    c.byte_before.ensures ∙ (ap (last_or None) (take_all (length bytes) bytes (omega arith)) ∙ sym (last_or-some c.args.before bytes (grind (arith, nat_tests, c.is_empty.ensures, c.if-is_empty.false))))
