use Rattle.std.proofs.Common.{◌≡◌, drop}
use Rattle.std.specs.List.{list_any}
use Rattle.csv_sniffer.specs.Noticed.{is_hash_alone}
use Rattle.csv_sniffer.specs.Rows.{row_texts}
use Rattle.csv_sniffer.proofs.noticing.some_hash_alone.Given as goal

-- the rows that are left decide
abbrev pub invariant-loop-row : goal.invariant-loop-row
invariant-loop-row l =
    list_any (is_hash_alone l.rows.dialect) (drop l.row (row_texts l.rows.sample.now l.rows.spans)) ≡ list_any (is_hash_alone l.rows.dialect) (row_texts l.rows.sample.now l.rows.spans)
