use Rattle.std.proofs.Common.{◌≡◌, ◌≤◌, drop}
use Rattle.std.specs.List.{find}
use Rattle.csv_sniffer.specs.Noticed.{has_fields}
use Rattle.csv_sniffer.proofs.noticing.lines_above.Given as goal

-- the rows that are left decide
abbrev pub invariant-loop-row : goal.invariant-loop-row
invariant-loop-row l = record {
  low : 1 ≤ l.row;
  found : find (has_fields l.rows.sample.now l.rows.dialect l.mode) (drop l.row l.rows.spans) ≡ find (has_fields l.rows.sample.now l.rows.dialect l.mode) (drop 1 l.rows.spans);
}
