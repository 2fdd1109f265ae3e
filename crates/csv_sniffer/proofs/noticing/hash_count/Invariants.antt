use Rattle.std.proofs.Common.{◌≡◌, ◌≤◌, take, length}
use Rattle.csv_sniffer.specs.Noticed.{hash_count}
use Rattle.csv_sniffer.specs.Rows.{row_texts}
use Rattle.csv_sniffer.proofs.noticing.hash_count.Given as goal

-- the rows so far are counted
abbrev pub invariant-loop-row : goal.invariant-loop-row
invariant-loop-row l = record {
  most : l.count ≤ l.row;
  high : l.row ≤ length l.rows.spans;
  counted : l.count ≡ hash_count (take l.row (row_texts l.rows.sample.now l.rows.spans));
}
