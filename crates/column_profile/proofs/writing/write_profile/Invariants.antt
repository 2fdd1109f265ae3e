use Rattle.std.proofs.Common.{◌≡◌, ◌++◌}
use Rattle.std.specs.Prelude.{flat_map}
use Rattle.std.specs.List.{range_with_len}
use Rattle.csv_writer.specs.WrittenTable.{names_line}
use Rattle.column_profile.specs.Profile.{line_at, profile_fields}
use Rattle.column_profile.proofs.writing.write_profile.Given as goal

-- the lines of the columns so far
abbrev pub invariant-loop-number : goal.invariant-loop-number
invariant-loop-number l = l.text.text ≡ names_line profile_fields ++ flat_map (line_at l.names l.profile) (range_with_len 0 l.number)
