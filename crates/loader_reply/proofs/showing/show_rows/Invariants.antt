use Rattle.std.proofs.Common.{◌≡◌, ◌+◌, length, map, take}
use Rattle.column_store.specs.Stacked.{rows_in}
use Rattle.column_taps.specs.Slots.{course_in}
use Rattle.loader_reply.proofs.ShownChunks.{all_after}
use Rattle.loader_reply.proofs.showing.show_rows.Given as goal

-- the taps have been shown the rows of the chunks before the place
abbrev pub invariant-loop-chunk : goal.invariant-loop-chunk
invariant-loop-chunk g l =
    let courses = map (course_in (λ v x. (goal.RowTap-dyn g (v, x)).seen x)) in
    record {
      number : l.number ≡ 1 + length (rows_in (take l.chunk-index l.earlier));
      shown : courses l.slots ≡ all_after 1 (courses l.initial.slots) (rows_in (take l.chunk-index l.earlier));
    }
