use Rattle.std.proofs.Common.{◌≡◌, ◌++◌, take}
use Rattle.std.specs.Prelude.{flat_map}
use Rattle.report_text.specs.ExplainedLines.{candidate_line}
use Rattle.report_text.proofs.explained.push_candidates.Given as goal

abbrev pub invariant-loop-candidate : goal.invariant-loop-candidate
invariant-loop-candidate l = l.into.text ≡ l.fn.into.text ++ flat_map candidate_line (take l.candidate-index l.candidates)
