use Rattle.std.proofs.Common.{◌≡◌, ◌++◌, map, drop}
use Rattle.std.specs.List.{zip}
use Rattle.npz_writer.specs.Labels.{label}
use Rattle.npz_writer.proofs.labels.push_labels.Given as goal

-- the rows so far, and those that are left
abbrev pub invariant-loop-column : goal.invariant-loop-column
invariant-loop-column l = record {
  types : l.table.types ≡ l.fn.table.types;
  rows : l.table.rows ++ map label (zip (drop l.column l.keys) (drop l.column l.types)) ≡ l.fn.table.rows ++ map label (zip l.keys l.types);
}
