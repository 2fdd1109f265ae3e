use Rattle.std.proofs.Common.{◌≡◌, ◌∙◌, ◌++◌, ◌∷◌, [], arith, ap, length, sym, rules, w64}
use Rattle.std.specs.Prelude.{Some, slice_get}
use Rattle.std.proofs.lemmas.Int.{to_z-of_z}
use Rattle.value_types.specs.declared.types.ColumnType.TheVariants.{Bigint}
use Rattle.value_types.specs.declared.types.Value.TheVariants.{Int}
use Rattle.value_types.specs.Datum.{typed}
use Rattle.column_store.specs.ChunkView.{ChunkView}
use Rattle.range_scan.proofs.QuotedFields.{quoted_field, quoted_is_ascii}
use Rattle.range_scan.proofs.fast_rows.number_fields.push_quoted_number.Goals as goal

pub returns-clause-at : goal.returns-clause-at
returns-clause-at c =
    let context = c.args.context.now in
    let bytes = c.args.bytes.now in
    let from = c.args.from in
    let front = c.in-Some.front in
    let old : ChunkView = c.args.chunk.now in
    let is = c.in-Some.ensures.value in
    let closed = c.in-Some.ensures.closed in
    let next : slice_get context.schema.types (length old.unfinished) ≡ Some Bigint = ap (λ tys. slice_get tys (length old.unfinished)) (sym c.requires.types) ∙ c.requires.next in
    record {
      low = omega (arith, is.at.low);
      high = closed.1;
      cell = typed (Int front.number);
      pushed = c.in_ok-push_bigint.ensures.ok ∙ ap (λ n. record old { unfinished = old.unfinished ++ typed (Int n) ∷ [] }) (to_z-of_z w64 front.number (search rules));
      is = quoted_field context c.requires.holds.fields.plain bytes from front.end c.requires.within c.requires.doubles Bigint is.at closed.0 (length old.unfinished) next closed.1 (typed (Int front.number)) is.value;
      ascii = λ other. quoted_is_ascii context c.requires.holds.fields.plain bytes from front.end c.requires.within c.requires.doubles Bigint is.at closed.0;
    }
