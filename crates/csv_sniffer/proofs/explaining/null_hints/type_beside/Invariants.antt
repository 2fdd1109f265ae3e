use Rattle.std.proofs.Common.{◌≡◌, ◌≤◌, drop, length, map}
use Rattle.std.specs.Prelude.{filter, not}
use Rattle.csv_sniffer.specs.Hints.{is_such_null}
use Rattle.value_types.specs.PossibleTypes.{possible_types}
use Rattle.csv_sniffer.specs.declared.explaining.entries.Entry.{Entry}
use Rattle.csv_sniffer.proofs.explaining.null_hints.type_beside.Given as goal

-- what is possible over the values from the last one down to the place
abbrev pub invariant-loop-place : goal.invariant-loop-place
invariant-loop-place l = record {
  high : l.place ≤ length l.entries;
  possible : l.possible ≡ possible_types (map (λ (e : Entry). e.value) (filter (λ e. not (is_such_null l.options l.text e)) (drop l.place l.entries)));
}
