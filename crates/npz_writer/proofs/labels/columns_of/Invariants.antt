use Rattle.std.proofs.Common.{◌≡◌, ◌++◌, map, drop}
use Rattle.npz_writer.proofs.labels.columns_of.Given as goal

-- those so far, and those that are left
abbrev pub invariant-loop-column : goal.invariant-loop-column
invariant-loop-column l = record {
  keys : l.keys ++ map (λ column. column.0.now) (drop l.column-index l.columns) ≡ map (λ column. column.0.now) l.columns;
  types : l.types ++ map (λ column. column.1) (drop l.column-index l.columns) ≡ map (λ column. column.1) l.columns;
}
