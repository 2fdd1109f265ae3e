use Rattle.std.proofs.Common.{◌++◌, ◌∙◌, ap, sym, append_assoc}
use Rattle.std.specs.Prelude.{flat_map}
use Rattle.std.specs.List.{range_with_len}
use Rattle.npz_writer.specs.Slots.{column_slots, sheet_at}
use Rattle.npz_writer.proofs.SlotSteps.{one_more}
use Rattle.npz_writer.proofs.slots.push_sheet.Goals as goal

pub loop-column-preserved : goal.loop-column-preserved
loop-column-preserved c =
    let column = c.loop-column.column in
    let slots = column_slots c.args.sheet (sheet_at c.args.sheets.now c.args.sheet) in
    c.in_ok-push_column.ensures ∙ ap (λ made. made ++ slots column) c.loop-column.invariant ∙ append_assoc c.args.slots.now.items (flat_map slots (range_with_len 0 column)) (slots column)
    ∙ ap (λ made. c.args.slots.now.items ++ made) (sym (one_more slots column))
