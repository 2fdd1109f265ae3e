use Rattle.std.proofs.Common.{◌-◌, ◌≤◌, length}
use Rattle.dialect_rank.proofs.CountedRows.{HasCounted}
use Rattle.dialect_rank.proofs.row_count.fields.count_row.Given as goal

-- the bytes so far are so many fields
abbrev pub invariant-fields : goal.invariant-fields
invariant-fields l = record {
  within : l.from ≤ length l.bytes;
  few : l.fields ≤ l.from;
  some : l.quoted ≤ l.fields;
  counted : HasCounted l.dialect l.bytes l.from l.fields l.quoted;
}

abbrev pub decreases-fields : goal.decreases-fields
decreases-fields l = length l.bytes - l.from
