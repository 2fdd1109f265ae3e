use Rattle.std.proofs.Common.{◌≡◌, ◌++◌, map, take, drop}
use Rattle.value_types.specs.Views.{view_rows}
use Rattle.column_taps.specs.Course.{course_after}
use Rattle.column_taps.specs.Slots.{course_in}
use Rattle.column_taps.proofs.feeding_columns.feed_columns.Given as goal

-- the slots so far have taken the rows
abbrev pub invariant-loop-slot : goal.invariant-loop-slot
invariant-loop-slot g l =
    let courses = map (course_in (λ v x. (goal.RowTap-dyn g (v, x)).seen x)) in
    let olds = courses l.initial.slots in
    courses l.slots ≡ map (λ c. course_after l.number c (view_rows l.columns l.rows)) (take l.slot-index olds) ++ drop l.slot-index olds
