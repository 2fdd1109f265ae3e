use Rattle.std.proofs.Common.{◌≡◌, ◌+◌, ◌-◌, length, map, arith}
use Rattle.std.proofs.lemmas.List.Elements.{All-same}
use Rattle.column_taps.specs.Shown.{MayGoOn}
use Rattle.column_taps.specs.Slots.{course_in}
use Rattle.part_tests.proofs.FeedRooms.{row_leaves_room}
use Rattle.part_tests.proofs.tests.column_taps_feeding.show.Goals as goal

pub loop-row-preserved : goal.loop-row-preserved
loop-row-preserved g c =
    let courses = map (course_in (λ v x. (goal.RowTap-dyn g (v, x)).seen x)) in
    let left = length c.args.rows.now - c.loop-row.row-index in
    let behind = length c.args.rows.now - (c.loop-row.row-index + 1) in
    let some : left ≡ behind + 1 = omega (arith, c.loop-row-test.true) in
    record {
      number = omega (arith, c.loop-row.invariant.number);
      room = All-same (MayGoOn behind 2) (courses c.feed.new.slots) _ c.in_ok-feed.ensures
          (row_leaves_room left behind _ _ (courses c.loop-row.slots) some c.in_ok-fill.ensures c.loop-row.invariant.room);
    }
