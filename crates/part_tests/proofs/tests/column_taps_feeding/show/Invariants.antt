use Rattle.std.proofs.Common.{◌≡◌, ◌-◌, length, map}
use Rattle.std.specs.Prelude.{All}
use Rattle.column_taps.specs.Shown.{MayGoOn}
use Rattle.column_taps.specs.Slots.{course_in}
use Rattle.part_tests.proofs.tests.column_taps_feeding.show.Given as goal

-- the taps have room for the rows that are left
abbrev pub invariant-loop-row : goal.invariant-loop-row
invariant-loop-row g l = record {
  number : l.number ≡ l.row-index;
  room : All (MayGoOn (length l.rows - l.row-index) 2) (map (course_in (λ v x. (goal.RowTap-dyn g (v, x)).seen x)) l.slots);
}
