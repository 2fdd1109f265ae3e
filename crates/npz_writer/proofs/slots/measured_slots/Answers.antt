use Rattle.std.proofs.Common.{◌∙◌, List, ap, drop, length, map, sym, subst}
use Rattle.std.specs.Prelude.{All}
use Rattle.npz_writer.specs.declared.slots.Slot.{Slot}
use Rattle.npz_writer.specs.Sheets.{SheetView}
use Rattle.npz_writer.specs.Slots.{IsReady, IsWithin}
use Rattle.npz_writer.proofs.SlotSteps.{put_back, ready_all, same_arrays, slots_within}
use Rattle.npz_writer.proofs.slots.measured_slots.Goals as goal

pub measure_all-requires-after_bounds : goal.measure_all-requires-after_bounds
measure_all-requires-after_bounds g c =
    let sheets : List SheetView = c.args.sheets.now in
    λ _ _. subst (All (λ (slot : Slot). IsWithin sheets slot.array)) (sym (c.deref_mut.ensures.value ∙ c.in_ok-slots.ensures)) (slots_within sheets)

pub returns-clause-ready : goal.returns-clause-ready
returns-clause-ready g c =
    let sheets : List SheetView = c.args.sheets.now in
    let slots : List Slot = c.deref_mut.result.now in
    let measured : List Slot = c.measure_all.new.slots in
    let within : All (λ (slot : Slot). IsWithin sheets slot.array) slots = subst (All (λ (slot : Slot). IsWithin sheets slot.array)) (sym (c.deref_mut.ensures.value ∙ c.in_ok-slots.ensures)) (slots_within sheets) in
    subst (All (IsReady sheets))
    (sym (put_back c.in_ok-slots.slots.len measured (drop (length measured) c.in_ok-slots.slots.items) (c.measure_all.auto.slots ∙ c.deref_mut.ensures.len)))
    (ready_all sheets slots measured c.measure_all.auto.slots c.measure_all.ensures within)

pub returns-clause-arrays : goal.returns-clause-arrays
returns-clause-arrays g c =
    let measured : List Slot = c.measure_all.new.slots in
    ap (map (λ (slot : Slot). slot.array))
    (put_back c.in_ok-slots.slots.len measured (drop (length measured) c.in_ok-slots.slots.items) (c.measure_all.auto.slots ∙ c.deref_mut.ensures.len))
    ∙ same_arrays c.args.sheets.now c.deref_mut.result.now measured c.measure_all.auto.slots c.measure_all.ensures
    ∙ ap (map (λ (slot : Slot). slot.array)) (c.deref_mut.ensures.value ∙ c.in_ok-slots.ensures)
