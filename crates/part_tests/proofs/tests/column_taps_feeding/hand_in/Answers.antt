use Rattle.std.proofs.Common.{◌∷◌, [], ◌++◌, map, ap, ◌∙◌, arith}
use Rattle.std.proofs.lemmas.List.{map-append}
use Rattle.std.proofs.lemmas.List.Elements.{All-same, All-push}
use Rattle.column_taps.specs.declared.slot.Slot.TheVariants.{Live}
use Rattle.column_taps.specs.Shown.{MayGoOn}
use Rattle.column_taps.specs.Slots.{course_in}
use Rattle.column_taps.proofs.CourseRooms.{fresh_have_room}
use Rattle.part_tests.proofs.tests.column_taps_feeding.hand_in.Goals as goal

pub returns : goal.returns
returns g c =
    let course = course_in (λ v x. (goal.RowTap-dyn g (v, x)).seen x) in
    let slots = c.args.slots.now.items in
    let added = Live c.args.tap in
    All-same (MayGoOn 6 2) (map course c.push.new.self.items) (map course slots ++ course added ∷ [])
    (ap (map course) c.in_ok-push.ensures.items ∙ map-append course slots (added ∷ []))
    (All-push (MayGoOn 6 2) (map course slots) (course added) c.requires.room (fresh_have_room 6 2 _ (omega arith) (omega arith) c.requires.fresh))
