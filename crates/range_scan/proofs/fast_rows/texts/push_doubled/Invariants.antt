use Rattle.std.proofs.Common.{◌-◌, length}
use Rattle.range_scan.proofs.TextSteps.{TextPushed}
use Rattle.range_scan.proofs.fast_rows.texts.push_doubled.Given as goal

-- the text up to a quote or the end is under way
abbrev pub invariant-quotes : goal.invariant-quotes
invariant-quotes l = TextPushed l.context l.bytes l.from l.first l.at l.fn.chunk l.chunk

abbrev pub decreases-quotes : goal.decreases-quotes
decreases-quotes l = length l.bytes - l.at
