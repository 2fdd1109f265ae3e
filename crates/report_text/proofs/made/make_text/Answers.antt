use Rattle.std.proofs.Common.{◌++◌, ap, sym, ◌∙◌, append_assoc, append-nil, codes}
use Rattle.report_text.specs.MadeText.{made_row}
use Rattle.report_text.proofs.Texts.{flat_map-range_more}
use Rattle.report_text.proofs.made.make_text.Goals as goal

pub loop-row-init : goal.loop-row-init
loop-row-init c =
    let head = codes "id,ok,day,note\n" in
    c.in_ok-append.ensures.ok ∙ ap (λ xs. xs ++ head) (c.reserve.ensures ∙ c.new-text.ensures) ∙ sym (append-nil head)

pub loop-row-preserved : goal.loop-row-preserved
loop-row-preserved c =
    let row = made_row c.args.number in
    let head = codes "id,ok,day,note\n" in
    c.in_ok-push_row.ensures ∙ ap (λ xs. xs ++ row c.loop-row.row) c.loop-row.invariant
    ∙ append_assoc head _ (row c.loop-row.row) ∙ ap (λ xs. head ++ xs) (sym (flat_map-range_more row c.loop-row.row))
