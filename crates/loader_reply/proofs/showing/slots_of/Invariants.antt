use Rattle.std.proofs.Common.{◌≡◌, ◌++◌, map}
use Rattle.column_taps.specs.Course.{going}
use Rattle.column_taps.specs.Slots.{course_in}
use Rattle.loader_reply.proofs.showing.slots_of.Given as goal

-- a slot for each of the taps so far
abbrev pub invariant-loop-tap : goal.invariant-loop-tap
invariant-loop-tap g l =
    record {
      all : l.yielded ++ l.tap-iterator.rest.items ≡ l.fn.taps.items;
      made : map (course_in (λ v x. (goal.RowTap-dyn g (v, x)).seen x)) l.slots.items ≡ map (λ tap. going ((goal.RowTap-dyn g (tap.vtable, tap.value)).seen tap.value)) l.yielded;
    }
