use Rattle.std.proofs.Common.{◌≡◌, ◌<◌, ◌∷◌, ◌++◌, List, [], Some, length, refl, sym, ap, subst, ◌∙◌, arith, rules, w64}
use Rattle.std.specs.Prelude.{slice_get}
use Rattle.std.proofs.lemmas.Int.{to_z-of_z}
use Rattle.value_types.specs.declared.types.ColumnType.TheVariants.{Bigint}
use Rattle.value_types.specs.Datum.{Datum, typed}
use Rattle.value_types.specs.declared.types.Value.TheVariants.{Int}
use Rattle.column_store.specs.ChunkView.{ChunkView}
use Rattle.range_scan.specs.FastRows.{HasFields, IsFieldPushed}
use Rattle.range_scan.proofs.FastFields.{has_no_field}
use Rattle.range_scan.proofs.FastSteps.{on_some, one_longer, step_last, step_more, still_under, under_twice}
use Rattle.range_scan.proofs.NumberSteps.{number_pushed, takes_next, takes_number}
use Rattle.range_scan.proofs.fast_rows.numbers.push_numbers.Goals as goal

pub loop-column-init : goal.loop-column-init
loop-column-init c = record {
  under = refl;
  count = omega (arith, ap length c.requires.whole);
  within = omega arith;
  fields = subst (HasFields c.args.context.now c.args.bytes.now 0) (sym {A = List Datum} c.requires.whole) (has_no_field c.args.context.now c.args.bytes.now);
}

pub push_bigint-requires : goal.push_bigint-requires
push_bigint-requires c = record {
  next = takes_next c.args.context.now c.requires.holds c.args.chunk.now c.loop-column.chunk c.requires.types c.loop-column.invariant.under
      (omega (arith, c.loop-column.invariant.count, c.columns-column-end.ensures, c.loop-column-test.true));
}

pub loop-column-preserved : goal.loop-column-preserved
loop-column-preserved c =
    let context = c.args.context.now in
    let bytes = c.args.bytes.now in
    let so = c.loop-column.invariant in
    let first : ChunkView = c.args.chunk.now in
    let old : ChunkView = c.loop-column.chunk in
    let new : ChunkView = c.push_bigint.new.self in
    let from = c.loop-column.from in
    let front = c.in-Some.front in
    let lt : length old.unfinished < length context.schema.types = omega (arith, so.count, c.columns-column-end.ensures, c.loop-column-test.true, ap length c.requires.types) in
    let pushed : new ≡ record old { unfinished = old.unfinished ++ typed (Int front.number) ∷ [] } =
    c.in_ok-push_bigint.ensures.ok ∙ ap (λ n. record old { unfinished = old.unfinished ++ typed (Int n) ∷ [] }) (to_z-of_z w64 front.number (search rules)) in
    let found : IsFieldPushed context Bigint bytes from old new front.end = number_pushed context c.requires.holds bytes from old new front c.in-Some.ensures.value lt pushed in
    let sound = c.requires.holds.fields.plain.leaves.sound in
    let next : slice_get context.schema.types (length old.unfinished) ≡ Some Bigint = takes_number context c.requires.holds (length old.unfinished) lt in
    record {
      under = still_under context sound bytes from first old new so.under Bigint next front.end found so.fields;
      count = omega (arith, so.count, one_longer context sound bytes from first old new so.under Bigint next front.end found so.fields);
      within = omega (arith, found.high);
      fields = step_more context sound bytes from first old new so.under Bigint next front.end found so.fields (c.in-Some.ensures.ends ∙ c.delim-delim.ensures);
    }

pub push_bigint-requires-2 : goal.push_bigint-requires-2
push_bigint-requires-2 c = record {
  next = takes_next c.args.context.now c.requires.holds c.args.chunk.now c.loop-column.chunk c.requires.types c.loop-column.invariant.under
      (omega (arith, c.loop-column.invariant.count, c.columns-column-end.ensures, c.loop-column.auto.column-end, c.requires.holds.fields.plain.some, ap length c.requires.types));
}

pub returns-clause-ok : goal.returns-clause-ok
returns-clause-ok c =
    let context = c.args.context.now in
    let bytes = c.args.bytes.now in
    let so = c.loop-column.invariant in
    let first : ChunkView = c.args.chunk.now in
    let old : ChunkView = c.loop-column.chunk in
    let new : ChunkView = c.push_bigint-2.new.self in
    let from = c.loop-column.from in
    let front = c.in-Some-last_number.front in
    let lt : length old.unfinished < length context.schema.types =
    omega (arith, so.count, c.columns-column-end.ensures, c.loop-column.auto.column-end, c.requires.holds.fields.plain.some, ap length c.requires.types) in
    let pushed : new ≡ record old { unfinished = old.unfinished ++ typed (Int front.number) ∷ [] } =
    c.in_ok-push_bigint-2.ensures.ok ∙ ap (λ n. record old { unfinished = old.unfinished ++ typed (Int n) ∷ [] }) (to_z-of_z w64 front.number (search rules)) in
    let found : IsFieldPushed context Bigint bytes from old new front.end = number_pushed context c.requires.holds bytes from old new front c.in-Some-last_number.ensures.value lt pushed in
    let sound = c.requires.holds.fields.plain.leaves.sound in
    let next : slice_get context.schema.types (length old.unfinished) ≡ Some Bigint = takes_number context c.requires.holds (length old.unfinished) lt in
    step_last context sound bytes from first old new so.under Bigint next front.end found so.fields c.in-Some-last_number.ensures.ends c.requires.no_comment

pub push_rest-requires-clause-types : goal.push_rest-requires-clause-types
push_rest-requires-clause-types c = ap (λ x. x.types) c.loop-column.invariant.under ∙ c.requires.types

pub returns-in_default-clause-same : goal.returns-in_default-clause-same
returns-in_default-clause-same c = under_twice c.args.chunk.now c.loop-column.chunk c.push_rest.new.chunk c.loop-column.invariant.under c.in_ok-row.ensures.same

pub returns-in_default-clause-count : goal.returns-in_default-clause-count
returns-in_default-clause-count c = on_some c.in_ok-row.row (λ end is. is ∙ ap (λ x. length x.types) c.loop-column.invariant.under) c.in_ok-row.ensures.count

pub push_rest-requires-in_default-last_number-clause-types : goal.push_rest-requires-in_default-last_number-clause-types
push_rest-requires-in_default-last_number-clause-types c = ap (λ x. x.types) c.loop-column.invariant.under ∙ c.requires.types

pub returns-in_default-last_number-clause-same : goal.returns-in_default-last_number-clause-same
returns-in_default-last_number-clause-same c =
    under_twice c.args.chunk.now c.loop-column.chunk c.push_rest-in_default-last_number.new.chunk c.loop-column.invariant.under c.in_ok-row-2.ensures.same

pub returns-in_default-last_number-clause-count : goal.returns-in_default-last_number-clause-count
returns-in_default-last_number-clause-count c =
    on_some c.in_ok-row-2.row (λ end is. is ∙ ap (λ x. length x.types) c.loop-column.invariant.under) c.in_ok-row-2.ensures.count
