use Rattle.std.proofs.Common.{◌+◌, ◌<◌, ◌^◌, length, map, arith, refl}
use Rattle.std.specs.Prelude.{All}
use Rattle.column_taps.specs.Shown.{MayGoOn}
use Rattle.column_taps.specs.Slots.{course_in}
use Rattle.loader_reply.specs.Showing.{seen_in}
use Rattle.loader_reply.proofs.ShownChunks.{none_shown, new_have_room, numbers_of_chunk, room_of_chunk, next_number, chunk_more, numbers_of_last, room_of_last, all_shown}
use Rattle.loader_reply.proofs.showing.show_rows.Goals as goal

pub loop-chunk-init : goal.loop-chunk-init
loop-chunk-init g c = record { number = refl; shown = none_shown _ }

pub show_chunk-requires-clause-numbers : goal.show_chunk-requires-clause-numbers
show_chunk-requires-clause-numbers g c =
    let table = c.args.table.now in
    let small = c.is_countable.ensures.within c.if-not-is_countable.false in
    let olds = map (course_in (λ v x. (goal.RowTap-dyn g (v, x)).seen x)) c.args.slots.now in
    let room : All (MayGoOn (length table.rows) (length table.types)) olds =
    new_have_room (length table.rows) (length table.types) olds (seen_in (λ v x. (goal.RowTap-dyn g (v, x)).seen x) c.args.slots.now) small.0 small.2 c.requires.new.0 c.requires.new.1 in
    numbers_of_chunk table.types table.rows c.chunks.result.0.now c.chunks.result.1.now c.chunks.ensures.rows c.requires.fits small.0 olds room c.loop-chunk.chunk-index c.chunk-item.result
    (omega arith) c.chunk-item.is c.loop-chunk.number c.loop-chunk.invariant.number

pub show_chunk-requires-clause-room : goal.show_chunk-requires-clause-room
show_chunk-requires-clause-room g c =
    let table = c.args.table.now in
    let small = c.is_countable.ensures.within c.if-not-is_countable.false in
    let olds = map (course_in (λ v x. (goal.RowTap-dyn g (v, x)).seen x)) c.args.slots.now in
    let room : All (MayGoOn (length table.rows) (length table.types)) olds =
    new_have_room (length table.rows) (length table.types) olds (seen_in (λ v x. (goal.RowTap-dyn g (v, x)).seen x) c.args.slots.now) small.0 small.2 c.requires.new.0 c.requires.new.1 in
    room_of_chunk table.types table.rows c.chunks.result.0.now c.chunks.result.1.now c.chunks.ensures.rows c.requires.fits small.0 olds room c.loop-chunk.chunk-index c.chunk-item.result
    (omega arith) c.chunk-item.is _ c.chunks.ensures.types c.loop-chunk.invariant.shown

pub overflow_add-number : goal.overflow_add-number
overflow_add-number g c =
    let table = c.args.table.now in
    let small = c.is_countable.ensures.within c.if-not-is_countable.false in
    let olds = map (course_in (λ v x. (goal.RowTap-dyn g (v, x)).seen x)) c.args.slots.now in
    let room : All (MayGoOn (length table.rows) (length table.types)) olds =
    new_have_room (length table.rows) (length table.types) olds (seen_in (λ v x. (goal.RowTap-dyn g (v, x)).seen x) c.args.slots.now) small.0 small.2 c.requires.new.0 c.requires.new.1 in
    let fits : c.loop-chunk.number + length c.chunk-item.result.rows < 2 ^ 64 =
    numbers_of_chunk table.types table.rows c.chunks.result.0.now c.chunks.result.1.now c.chunks.ensures.rows c.requires.fits small.0 olds room c.loop-chunk.chunk-index c.chunk-item.result
    (omega arith) c.chunk-item.is c.loop-chunk.number c.loop-chunk.invariant.number in
    omega (arith, fits, c.rows.ensures)

pub loop-chunk-preserved : goal.loop-chunk-preserved
loop-chunk-preserved g c =
    let table = c.args.table.now in
    let small = c.is_countable.ensures.within c.if-not-is_countable.false in
    let olds = map (course_in (λ v x. (goal.RowTap-dyn g (v, x)).seen x)) c.args.slots.now in
    let room : All (MayGoOn (length table.rows) (length table.types)) olds =
    new_have_room (length table.rows) (length table.types) olds (seen_in (λ v x. (goal.RowTap-dyn g (v, x)).seen x) c.args.slots.now) small.0 small.2 c.requires.new.0 c.requires.new.1 in
    let next = next_number table.types table.rows c.chunks.result.0.now c.chunks.result.1.now c.chunks.ensures.rows c.requires.fits small.0 olds room c.loop-chunk.chunk-index c.chunk-item.result
    (omega arith) c.chunk-item.is c.loop-chunk.number c.loop-chunk.invariant.number in
    record {
      number = omega (arith, next, c.rows.ensures);
      shown = chunk_more table.types table.rows c.chunks.result.0.now c.chunks.result.1.now c.chunks.ensures.rows c.requires.fits small.0 olds room c.loop-chunk.chunk-index c.chunk-item.result
          (omega arith) c.chunk-item.is c.loop-chunk.number _ _ c.loop-chunk.invariant.number c.loop-chunk.invariant.shown
          c.in_ok-show_chunk.ensures.ok;
    }

pub show_chunk-requires-2-clause-numbers : goal.show_chunk-requires-2-clause-numbers
show_chunk-requires-2-clause-numbers g c =
    let table = c.args.table.now in
    let small = c.is_countable.ensures.within c.if-not-is_countable.false in
    let olds = map (course_in (λ v x. (goal.RowTap-dyn g (v, x)).seen x)) c.args.slots.now in
    let room : All (MayGoOn (length table.rows) (length table.types)) olds =
    new_have_room (length table.rows) (length table.types) olds (seen_in (λ v x. (goal.RowTap-dyn g (v, x)).seen x) c.args.slots.now) small.0 small.2 c.requires.new.0 c.requires.new.1 in
    numbers_of_last table.types table.rows c.chunks.result.0.now c.chunks.result.1.now c.chunks.ensures.rows c.requires.fits small.0 olds room c.loop-chunk.number _ c.loop-chunk.chunk-index
    (omega arith) c.loop-chunk.invariant.number c.loop-chunk.invariant.shown

pub show_chunk-requires-2-clause-room : goal.show_chunk-requires-2-clause-room
show_chunk-requires-2-clause-room g c =
    let table = c.args.table.now in
    let small = c.is_countable.ensures.within c.if-not-is_countable.false in
    let olds = map (course_in (λ v x. (goal.RowTap-dyn g (v, x)).seen x)) c.args.slots.now in
    let room : All (MayGoOn (length table.rows) (length table.types)) olds =
    new_have_room (length table.rows) (length table.types) olds (seen_in (λ v x. (goal.RowTap-dyn g (v, x)).seen x) c.args.slots.now) small.0 small.2 c.requires.new.0 c.requires.new.1 in
    room_of_last table.types table.rows c.chunks.result.0.now c.chunks.result.1.now c.chunks.ensures.rows c.requires.fits small.0 olds room c.loop-chunk.number _ c.loop-chunk.chunk-index
    (omega arith) c.loop-chunk.invariant.number c.loop-chunk.invariant.shown c.chunks.ensures.last_types

pub returns : goal.returns
returns g c =
    let table = c.args.table.now in
    let small = c.is_countable.ensures.within c.if-not-is_countable.false in
    let olds = map (course_in (λ v x. (goal.RowTap-dyn g (v, x)).seen x)) c.args.slots.now in
    let room : All (MayGoOn (length table.rows) (length table.types)) olds =
    new_have_room (length table.rows) (length table.types) olds (seen_in (λ v x. (goal.RowTap-dyn g (v, x)).seen x) c.args.slots.now) small.0 small.2 c.requires.new.0 c.requires.new.1 in
    record {
      ok = all_shown table.types table.rows c.chunks.result.0.now c.chunks.result.1.now c.chunks.ensures.rows c.requires.fits small.0 olds room c.loop-chunk.number _ c.loop-chunk.chunk-index
          (omega arith) c.loop-chunk.invariant.number c.loop-chunk.invariant.shown _
          c.in_ok-show_chunk-2.ensures.ok;
    }
