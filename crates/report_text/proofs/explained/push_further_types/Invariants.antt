use Rattle.std.proofs.Common.{◌≡◌, ◌++◌, take}
use Rattle.std.specs.Prelude.{flat_map}
use Rattle.report_text.specs.ExplainedLines.{further_type}
use Rattle.report_text.proofs.explained.push_further_types.Given as goal

abbrev pub invariant-loop-ty : goal.invariant-loop-ty
invariant-loop-ty l = l.into.text ≡ l.fn.into.text ++ flat_map further_type (take l.ty-index l.types)
