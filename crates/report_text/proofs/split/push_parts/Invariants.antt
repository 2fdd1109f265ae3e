use Rattle.std.proofs.Common.{◌≡◌, ◌++◌, drop}
use Rattle.part_cuts.specs.Part.{parts}
use Rattle.report_text.specs.SplitLines.{part_lines_from}
use Rattle.report_text.proofs.split.push_parts.Given as goal

-- with the rest the text is that of all parts
abbrev pub invariant-loop-number : goal.invariant-loop-number
invariant-loop-number l = let all = parts l.cuts.starts l.cuts.tally in
    l.into.text ++ part_lines_from l.number (drop l.number all) ≡ l.fn.into.text ++ part_lines_from 0 all
