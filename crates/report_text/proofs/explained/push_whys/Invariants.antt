use Rattle.std.proofs.Common.{◌≡◌, ◌++◌, take}
use Rattle.std.specs.Prelude.{flat_map}
use Rattle.report_text.specs.ExplainedLines.{why_line}
use Rattle.report_text.proofs.explained.push_whys.Given as goal

abbrev pub invariant-loop-why : goal.invariant-loop-why
invariant-loop-why l = l.into.text ≡ l.fn.into.text ++ flat_map why_line (take l.why-index l.whys)
