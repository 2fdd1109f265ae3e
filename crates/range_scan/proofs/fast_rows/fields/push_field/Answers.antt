use Rattle.std.proofs.Common.{◌≡◌, ◌∙◌, ◌++◌, ℕ, arith, Option, Some, ap, length, subst, sym}
use Rattle.std.specs.Prelude.{IfSome, option_and_then, slice_get, slice_range}
use Rattle.std.specs.Option.{option_to_list}
use Rattle.value_types.specs.declared.types.ColumnType.{ColumnType}
use Rattle.value_types.specs.OfType.{typed_cell}
use Rattle.value_types.specs.Plain.{IsPlainAt}
use Rattle.column_store.specs.ChunkView.{ChunkView}
use Rattle.column_store.specs.NextCell.{spelled_cell}
use Rattle.range_scan.proofs.PlainFields.{plain_field, plain_is_ascii, plain_value}
use Rattle.range_scan.proofs.fast_rows.fields.push_field.Goals as goal

pub returns-in-Some-clause-at : goal.returns-in-Some-clause-at
returns-in-Some-clause-at c =
    let context = c.args.context.now in
    let bytes = c.args.bytes.now in
    let from = c.args.from in
    let end = c.in-Some.end in
    let old : ChunkView = c.args.chunk.now in
    let new : ChunkView = c.push_front.new.self in
    let ty = c.args.ty in
    let column : ℕ = length old.unfinished in
    let at : IsPlainAt ty bytes from end =
    subst (λ (o : Option ℕ). IfSome o (λ e. (t : ColumnType) → slice_get old.types column ≡ Some t → IsPlainAt t bytes from e)) c.in-Some.is c.in_ok-end.ensures.at ty c.requires.next in
    let ok : new ≡ record old { unfinished = old.unfinished ++ option_to_list (spelled_cell old (slice_range bytes from end)) } =
    subst (λ (o : Option ℕ). IfSome o (λ e. new ≡ record old { unfinished = old.unfinished ++ option_to_list (spelled_cell old (slice_range bytes from e)) })) c.in-Some.is c.in_ok-end.ensures.ok in
    let value = plain_value ty bytes from end at in
    let cell : spelled_cell old (slice_range bytes from end) ≡ Some value.0 = ap (option_and_then (typed_cell (slice_range bytes from end))) c.requires.next ∙ value.1 in
    record {
      low = omega (arith, at.low);
      high = at.high;
      cell = value.0;
      pushed = ok ∙ (λ i. record old { unfinished = old.unfinished ++ option_to_list (cell i) });
      is = plain_field ty bytes from end at context c.requires.holds.plain column (ap (λ tys. slice_get tys column) (sym c.requires.types) ∙ c.requires.next) value.0 value.1;
      ascii = λ other. plain_is_ascii ty bytes from end at;
    }
