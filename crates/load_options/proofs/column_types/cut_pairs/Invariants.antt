use Rattle.std.proofs.Common.{◌≡◌, ◌++◌, map, drop}
use Rattle.load_options.specs.ColumnTypes.{pair_name, pair_type}
use Rattle.load_options.proofs.column_types.cut_pairs.Given as goal

-- the parts of the pairs so far, and those of the pairs that are left
abbrev pub invariant-loop-at : goal.invariant-loop-at
invariant-loop-at l = record {
  names : l.names ++ map pair_name (drop l.at l.pairs) ≡ map pair_name l.pairs;
  types : l.types ++ map pair_type (drop l.at l.pairs) ≡ map pair_type l.pairs;
}
