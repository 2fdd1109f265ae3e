use Rattle.std.proofs.Common.{◌≡◌, ◌<◌, ◌∙◌, ℕ, Option, Some, length, refl, sym, ap, subst, arith}
use Rattle.std.specs.Prelude.{IfSome, slice_get}
use Rattle.value_types.specs.declared.types.ColumnType.TheVariants.{Bigint}
use Rattle.column_store.specs.ChunkView.{ChunkView}
use Rattle.range_scan.specs.FastRows.{IsFastRow, IsFieldPushed}
use Rattle.range_scan.proofs.FastSteps.{one_longer, on_some, step_last, step_more, still_under}
use Rattle.range_scan.proofs.NumberSteps.{takes_next, takes_number}
use Rattle.range_scan.proofs.fast_rows.number_fields.push_rest.Goals as goal

pub loop-column-init : goal.loop-column-init
loop-column-init c = record { under = refl; count = c.requires.begun; within = c.requires.within; fields = c.requires.fields }

pub push_number-requires-clause-types : goal.push_number-requires-clause-types
push_number-requires-clause-types c = ap (λ x. x.types) c.loop-column.invariant.under ∙ c.requires.types

pub push_number-requires-clause-next : goal.push_number-requires-clause-next
push_number-requires-clause-next c =
    takes_next c.args.context.now c.requires.holds c.args.chunk.now c.loop-column.chunk c.requires.types c.loop-column.invariant.under
    (omega (arith, c.loop-column.invariant.count, c.loop-column-test.true, c.len-columns.ensures, ap length c.requires.types))

pub returns-then-bytes-end-clause-ok : goal.returns-then-bytes-end-clause-ok
returns-then-bytes-end-clause-ok c =
    let context = c.args.context.now in
    let bytes = c.args.bytes.now in
    let so = c.loop-column.invariant in
    let old : ChunkView = c.loop-column.chunk in
    let new : ChunkView = c.push_number.new.chunk in
    let from = c.loop-column.from in
    let end = c.in-Some.end in
    let lt : length old.unfinished < length context.schema.types = omega (arith, so.count, c.loop-column-test.true, c.len-columns.ensures) in
    let next : slice_get context.schema.types (length old.unfinished) ≡ Some Bigint = takes_number context c.requires.holds (length old.unfinished) lt in
    let found : IsFieldPushed context Bigint bytes from old new end = subst (λ (o : Option ℕ). IfSome o (IsFieldPushed context Bigint bytes from old new)) c.in-Some.is c.in_ok-end.ensures.at in
    on_some c.row_end.result (λ len ends. subst (IsFastRow context bytes new.unfinished) (sym ends.0)
    (step_last context c.requires.holds.fields.plain.leaves.sound bytes from c.args.chunk.now old new so.under Bigint next end found so.fields ends.2 c.requires.no_comment)) c.row_end.ensures

pub loop-column-preserved : goal.loop-column-preserved
loop-column-preserved c =
    let context = c.args.context.now in
    let bytes = c.args.bytes.now in
    let so = c.loop-column.invariant in
    let old : ChunkView = c.loop-column.chunk in
    let new : ChunkView = c.push_number.new.chunk in
    let from = c.loop-column.from in
    let end = c.in-Some.end in
    let lt : length old.unfinished < length context.schema.types = omega (arith, so.count, c.loop-column-test.true, c.len-columns.ensures) in
    let next : slice_get context.schema.types (length old.unfinished) ≡ Some Bigint = takes_number context c.requires.holds (length old.unfinished) lt in
    let found : IsFieldPushed context Bigint bytes from old new end = subst (λ (o : Option ℕ). IfSome o (IsFieldPushed context Bigint bytes from old new)) c.in-Some.is c.in_ok-end.ensures.at in
    let sound = c.requires.holds.fields.plain.leaves.sound in
    let first : ChunkView = c.args.chunk.now in
    record {
      under = still_under context sound bytes from first old new so.under Bigint next end found so.fields;
      count = omega (arith, so.count, one_longer context sound bytes from first old new so.under Bigint next end found so.fields);
      within = omega (arith, found.high);
      fields = step_more context sound bytes from first old new so.under Bigint next end found so.fields (omega (arith, c.if-bytes-end.false, c.delim-delim.ensures));
    }
