use Rattle.std.proofs.Common.{◌≡◌, ◌∙◌, ℕ, Option, Some, List, length, refl, sym, ap, subst, arith}
use Rattle.std.specs.Prelude.{IfSome, slice_get}
use Rattle.value_types.specs.declared.types.ColumnType.{ColumnType}
use Rattle.value_types.specs.Datum.{Datum}
use Rattle.column_store.specs.ChunkView.{ChunkView}
use Rattle.range_scan.specs.FastRows.{HasFields, IsFastRow, IsFieldPushed}
use Rattle.range_scan.proofs.FastFields.{has_no_field}
use Rattle.range_scan.proofs.FastSteps.{one_longer, on_some, step_last, step_more, still_under}
use Rattle.range_scan.proofs.fast_rows.fields.push_fields.Goals as goal

pub loop-column-init : goal.loop-column-init
loop-column-init c = record {
  under = refl;
  count = ap length c.requires.whole;
  within = omega arith;
  fields = subst (HasFields c.args.context.now c.args.bytes.now 0) (sym {A = List Datum} c.requires.whole) (has_no_field c.args.context.now c.args.bytes.now);
}

pub returns-then-bytes-end-clause-ok : goal.returns-then-bytes-end-clause-ok
returns-then-bytes-end-clause-ok c =
    let context = c.args.context.now in
    let bytes = c.args.bytes.now in
    let so = c.loop-column.invariant in
    let old : ChunkView = c.loop-column.chunk in
    let new : ChunkView = c.push_field.new.chunk in
    let from = c.loop-column.from in
    let end = c.in-Some.end in
    let ty : ColumnType = c.get.result in
    let next : slice_get context.schema.types (length old.unfinished) ≡ Some ty = ap (slice_get context.schema.types) so.count ∙ c.get.ensures in
    let found : IsFieldPushed context ty bytes from old new end = subst (λ (o : Option ℕ). IfSome o (IsFieldPushed context ty bytes from old new)) c.in-Some.is c.in_ok-end.ensures.at in
    on_some c.row_end.result (λ len ends. subst (IsFastRow context bytes new.unfinished) (sym ends.0)
    (step_last context c.requires.holds.plain.leaves.sound bytes from c.args.chunk.now old new so.under ty next end found so.fields ends.2 c.requires.no_comment)) c.row_end.ensures

pub loop-column-preserved : goal.loop-column-preserved
loop-column-preserved c =
    let context = c.args.context.now in
    let bytes = c.args.bytes.now in
    let so = c.loop-column.invariant in
    let old : ChunkView = c.loop-column.chunk in
    let new : ChunkView = c.push_field.new.chunk in
    let from = c.loop-column.from in
    let end = c.in-Some.end in
    let ty : ColumnType = c.get.result in
    let next : slice_get context.schema.types (length old.unfinished) ≡ Some ty = ap (slice_get context.schema.types) so.count ∙ c.get.ensures in
    let found : IsFieldPushed context ty bytes from old new end = subst (λ (o : Option ℕ). IfSome o (IsFieldPushed context ty bytes from old new)) c.in-Some.is c.in_ok-end.ensures.at in
    let sound = c.requires.holds.plain.leaves.sound in
    let first : ChunkView = c.args.chunk.now in
    record {
      under = still_under context sound bytes from first old new so.under ty next end found so.fields;
      count = omega (arith, so.count, one_longer context sound bytes from first old new so.under ty next end found so.fields);
      within = omega (arith, found.high);
      fields = step_more context sound bytes from first old new so.under ty next end found so.fields (omega (arith, c.if-bytes-end.false, c.delim-delim.ensures));
    }
