use Rattle.std.proofs.Common.{◌≡◌, ◌∙◌, ◌++◌, length, map, flat_map, arith, ap, subst, sym, List}
use Rattle.column_taps.specs.Course.{course_lines}
use Rattle.column_taps.specs.Seen.{Seen}
use Rattle.column_taps.specs.Slots.{course_in}
use Rattle.loader_reply.specs.Showing.{seen_in, tap_lines, AreNew}
use Rattle.loader_reply.proofs.ShownChunks.{all_after, all_lines, written_back}
use Rattle.loader_reply.proofs.SlotTaps.{taps_in, are_new}
use Rattle.loader_reply.proofs.showing.tap_lines.Goals as goal

pub show_rows-shown-requires-clause-new : goal.show_rows-shown-requires-clause-new
show_rows-shown-requires-clause-new g c =
    subst (AreNew (λ v x. (goal.RowTap-dyn g (v, x)).seen x)) (sym c.deref_mut.ensures.value)
    (are_new (λ v x. (goal.RowTap-dyn g (v, x)).seen x) (λ tap. (goal.RowTap-dyn g (tap.vtable, tap.value)).seen tap.value) c.in_ok-slots.slots.items c.args.taps.items c.in_ok-slots.ensures.ok c.requires.fresh)

pub returns : goal.returns
returns g c =
    let courses = map (course_in (λ v x. (goal.RowTap-dyn g (v, x)).seen x)) in
    let slots = c.in_ok-slots.slots in
    let fresh = are_new (λ v x. (goal.RowTap-dyn g (v, x)).seen x) (λ tap. (goal.RowTap-dyn g (tap.vtable, tap.value)).seen tap.value) slots.items c.args.taps.items c.in_ok-slots.ensures.ok c.requires.fresh in
    let len : length c.show_rows-shown.new.slots ≡ slots.len = omega (arith, c.show_rows-shown.auto.slots, c.deref_mut.ensures.len, ap length c.deref_mut.ensures.value) in
    let same : c.deref.result.now ≡ c.show_rows-shown.new.slots = written_back slots.len c.show_rows-shown.new.slots slots.items c.deref.result.now len c.deref.ensures.value in record {
      ok = c.in_ok-write_slots.ensures ∙ ap (λ lines. lines ++ flat_map course_lines (courses c.deref.result.now)) c.new-lines.ensures.items
          ∙ all_lines (courses c.deref.result.now) (courses slots.items) (seen_in (λ v x. (goal.RowTap-dyn g (v, x)).seen x) slots.items) c.args.table.now.rows
          (ap courses same ∙ c.in_ok-shown.ensures.ok ∙ ap (λ xs. all_after 1 (courses xs) c.args.table.now.rows) c.deref_mut.ensures.value) fresh.0
          ∙ ap (λ (taps : List Seen). tap_lines taps c.args.table.now.rows) (taps_in (λ v x. (goal.RowTap-dyn g (v, x)).seen x) (λ tap. (goal.RowTap-dyn g (tap.vtable, tap.value)).seen tap.value) slots.items c.args.taps.items c.in_ok-slots.ensures.ok);
    }
