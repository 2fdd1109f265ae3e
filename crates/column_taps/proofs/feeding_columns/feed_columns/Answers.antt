use Rattle.std.proofs.Common.{take, arith}
use Rattle.value_types.specs.Views.{view_rows}
use Rattle.column_taps.specs.Course.{Course, course_after}
use Rattle.column_taps.specs.Shown.{MayGoOn}
use Rattle.column_taps.specs.Slots.{course_in}
use Rattle.column_taps.proofs.FeedSteps.{within_olds, still, fed_more, fed_in_part}
use Rattle.column_taps.proofs.feeding_columns.feed_columns.Goals as goal

pub feed_slot_columns-requires-clause-room : goal.feed_slot_columns-requires-clause-room
feed_slot_columns-requires-clause-room g c =
    still (course_in (λ v x. (goal.RowTap-dyn g (v, x)).seen x)) (λ course. course_after c.args.number course (view_rows c.args.columns.now c.args.rows)) _ c.loop-slot.slots
    c.loop-slot.slot-index c.slot-item.result (omega arith) c.loop-slot.invariant (MayGoOn c.args.rows _) c.requires.room

pub returns-in-Err : goal.returns-in-Err
returns-in-Err g c =
    let seen_in = course_in (λ v x. (goal.RowTap-dyn g (v, x)).seen x) in
    let rows = view_rows c.args.columns.now c.args.rows in
    let next : Course → Course = λ course. course_after c.args.number course rows in
    let part = c.in-Err.ensures in (
      c.loop-slot.slot-index,
      part.0,
      within_olds seen_in next _ c.loop-slot.slots c.loop-slot.slot-index c.slot-item.result (omega arith) c.loop-slot.invariant,
      part.1,
      fed_in_part seen_in next _ c.loop-slot.slots c.loop-slot.slot-index c.slot-item.result (omega arith) c.loop-slot.invariant
          (λ course. course_after c.args.number course (take part.0 rows)) _ part.2,
    )

pub loop-slot-preserved : goal.loop-slot-preserved
loop-slot-preserved g c =
    fed_more (course_in (λ v x. (goal.RowTap-dyn g (v, x)).seen x)) (λ course. course_after c.args.number course (view_rows c.args.columns.now c.args.rows)) _ c.loop-slot.slots
    c.loop-slot.slot-index c.slot-item.result (omega arith) c.loop-slot.invariant _ c.in_default.ensures
