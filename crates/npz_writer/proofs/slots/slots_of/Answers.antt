use Rattle.std.proofs.Common.{◌++◌, ◌∙◌, ap, sym}
use Rattle.npz_writer.specs.Slots.{sheet_slots}
use Rattle.npz_writer.proofs.SlotSteps.{one_more}
use Rattle.npz_writer.proofs.slots.slots_of.Goals as goal

pub loop-sheet-preserved : goal.loop-sheet-preserved
loop-sheet-preserved c =
    let slots = sheet_slots c.args.sheets.now in
    c.in_ok-push_sheet.ensures ∙ ap (λ made. made ++ slots c.loop-sheet.sheet) c.loop-sheet.invariant ∙ sym (one_more slots c.loop-sheet.sheet)
