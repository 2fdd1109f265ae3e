use Rattle.std.proofs.Common.{◌≡◌, ◌+◌, ◌<◌, ◌≤◌, ℕ, true, length, get_or}
use Rattle.value_types.specs.declared.possible_types.PossibleTypes.{PossibleTypes}
use Rattle.value_types.specs.KeptTypes.{is_settled}
use Rattle.csv_sniffer.proofs.kept_rows.unsettled.Given as goal

-- so many columns at the end are settled
abbrev pub invariant-loop-count : goal.invariant-loop-count
invariant-loop-count l = (k : ℕ) (other : PossibleTypes) → length l.possible ≤ k + l.count → k < length l.possible → is_settled (get_or l.possible k other) ≡ true
