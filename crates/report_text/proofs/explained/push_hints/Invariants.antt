use Rattle.std.proofs.Common.{◌≡◌, ◌++◌, take}
use Rattle.std.specs.Prelude.{flat_map}
use Rattle.report_text.specs.ExplainedLines.{hint_line}
use Rattle.report_text.proofs.explained.push_hints.Given as goal

abbrev pub invariant-loop-hint : goal.invariant-loop-hint
invariant-loop-hint l = l.into.text ≡ l.fn.into.text ++ flat_map hint_line (take l.hint-index l.hints)
