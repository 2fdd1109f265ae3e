use Rattle.std.proofs.Common.{◌≡◌, [], map}
use Rattle.std.specs.List.{range_with_len}
use Rattle.column_profile.specs.Kept.{tally_in}
use Rattle.column_profile.specs.Profile.{cells_in}
use Rattle.column_profile.specs.Tally.{tally_of}
use Rattle.column_profile.proofs.columns.empty_columns.Given as goal

abbrev pub invariant-loop-number : goal.invariant-loop-number
invariant-loop-number l = map tally_in l.columns.items ≡ map (λ column. tally_of (cells_in column [])) (range_with_len 0 l._number)
