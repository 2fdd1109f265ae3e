use Rattle.std.proofs.Common.{◌≡◌, ◌∙◌, ◌++◌, ◌∷◌, [], ap, length, sym, rules, w64}
use Rattle.std.specs.Prelude.{Some, slice_get}
use Rattle.std.proofs.lemmas.Int.{to_z-of_z}
use Rattle.std.proofs.lemmas.Option.{slice_get_within}
use Rattle.value_types.specs.declared.types.ColumnType.TheVariants.{Bigint}
use Rattle.value_types.specs.declared.types.Value.TheVariants.{Int}
use Rattle.value_types.specs.Datum.{typed}
use Rattle.column_store.specs.ChunkView.{ChunkView}
use Rattle.range_scan.proofs.NumberSteps.{number_pushed}
use Rattle.range_scan.proofs.fast_rows.number_fields.push_number.Goals as goal

pub returns-clause-at : goal.returns-clause-at
returns-clause-at c =
    let context = c.args.context.now in
    let front = c.in-Some.front in
    let old : ChunkView = c.args.chunk.now in
    let next : slice_get context.schema.types (length old.unfinished) ≡ Some Bigint = ap (λ tys. slice_get tys (length old.unfinished)) (sym c.requires.types) ∙ c.requires.next in
    number_pushed context c.requires.holds c.args.bytes.now c.args.from old c.push_bigint.new.self front c.in-Some.ensures (slice_get_within context.schema.types (length old.unfinished) Bigint next)
    (c.in_ok-push_bigint.ensures.ok ∙ ap (λ n. record old { unfinished = old.unfinished ++ typed (Int n) ∷ [] }) (to_z-of_z w64 front.number (search rules)))
