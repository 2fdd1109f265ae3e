use Rattle.std.proofs.Common.{◌≡◌, ◌++◌, take}
use Rattle.std.specs.Prelude.{flat_map}
use Rattle.report_text.specs.SplitLines.{further_word}
use Rattle.report_text.proofs.split.push_further_words.Given as goal

abbrev pub invariant-loop-place : goal.invariant-loop-place
invariant-loop-place l = l.into.text ≡ l.fn.into.text ++ flat_map further_word (take l.place l.words)
