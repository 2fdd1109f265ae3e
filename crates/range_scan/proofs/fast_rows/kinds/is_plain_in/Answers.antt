use Rattle.std.proofs.Common.{sym, ap, ◌∙◌, arith}
use Rattle.std.proofs.lemmas.Bool.{or_from}
use Rattle.std.proofs.lemmas.List.Folds.{list_any_at, list_any_more}
use Rattle.std.proofs.lemmas.Option.{get_or_from_slice_get}
use Rattle.value_types.specs.declared.types.ColumnType.{ColumnType}
use Rattle.value_types.specs.Plain.{is_plain}
use Rattle.range_scan.proofs.fast_rows.kinds.is_plain_in.Goals as goal

pub returns-then-is_plain : goal.returns-then-is_plain
returns-then-is_plain c =
    let types = c.args.types.now in
    let ty = c.get.result in
    sym (list_any_at (λ (t : ColumnType). is_plain t c.args.byte) types c.loop-column.column ty (omega (arith, c.loop-column-test.true, c.len-column-end.ensures))
    (ap (λ t. is_plain t c.args.byte) (get_or_from_slice_get types c.loop-column.column ty ty c.get.ensures) ∙ sym c.is_plain.ensures ∙ c.if-is_plain.true))

pub loop-column-preserved : goal.loop-column-preserved
loop-column-preserved c =
    let types = c.args.types.now in
    let ty = c.get.result in
    list_any_more (λ (t : ColumnType). is_plain t c.args.byte) types c.loop-column.column ty (omega (arith, c.loop-column-test.true, c.len-column-end.ensures))
    ∙ or_from _ _ c.loop-column.invariant (ap (λ t. is_plain t c.args.byte) (get_or_from_slice_get types c.loop-column.column ty ty c.get.ensures) ∙ sym c.is_plain.ensures ∙ c.if-is_plain.false)
