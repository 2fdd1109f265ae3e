use Rattle.std.proofs.Common.{◌≡◌, ◌++◌, ◌∷◌, take}
use Rattle.std.specs.Prelude.{flat_map}
use Rattle.report_text.specs.Part.{part_text}
use Rattle.report_text.proofs.lines.push_front.Given as goal

abbrev pub invariant-loop-part : goal.invariant-loop-part
invariant-loop-part l = l.into.text ≡ l.fn.into.text ++ (l.name ++ flat_map (λ part. 124 ∷ part_text part) (take l.part-index l.parts))
