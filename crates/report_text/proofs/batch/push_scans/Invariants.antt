use Rattle.std.proofs.Common.{◌≡◌, ◌++◌, drop}
use Rattle.report_text.specs.BatchReport.{scans_from}
use Rattle.report_text.proofs.batch.push_scans.Given as goal

-- with the scans of the other files the text is that of all
abbrev pub invariant-loop-index : goal.invariant-loop-index
invariant-loop-index l = l.into.text ++ scans_from l.sniffed l.index (drop l.index l.batch.files) ≡ l.fn.into.text ++ scans_from l.sniffed 0 l.batch.files
