use Rattle.std.proofs.Common.{◌≡◌, ◌≤◌, ◌<◌, ℕ, List, length}
use Rattle.std.specs.Prelude.{slice_index_or}
use Rattle.value_types.specs.Datum.{Datum}
use Rattle.db_writer.specs.declared.groups.Group.{Group}
use Rattle.db_writer.specs.Groups.{HoldsRows, WritesGroup}
use Rattle.db_writer.proofs.groups.place_groups.Given as goal

-- the groups so far have their places, and the others are as they were
abbrev pub invariant-loop-index : goal.invariant-loop-index
invariant-loop-index l = record {
  count : length l.groups ≡ length l.fn.groups;
  placed : (rows : List (List Datum)) (k : ℕ) (d : Group) → k < l.index → HoldsRows rows (slice_index_or l.fn.groups k d) → WritesGroup rows (slice_index_or l.fn.groups k d) (slice_index_or l.groups k d);
  left : (k : ℕ) (d : Group) → l.index ≤ k → slice_index_or l.groups k d ≡ slice_index_or l.fn.groups k d;
}
