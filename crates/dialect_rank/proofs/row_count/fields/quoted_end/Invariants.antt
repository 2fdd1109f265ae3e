use Rattle.std.proofs.Common.{◌-◌, true, length}
use Rattle.row_fields.proofs.QuotedReading.{ReadInside}
use Rattle.dialect_rank.proofs.row_count.fields.quoted_end.Given as goal

-- the field is read up to a quote or the end
abbrev pub invariant-quotes : goal.invariant-quotes
invariant-quotes l = ReadInside l.dialect l.bytes l.from l.at true

abbrev pub decreases-quotes : goal.decreases-quotes
decreases-quotes l = length l.bytes - l.at
