-- A number is found and pushed.
use Rattle.std.proofs.Common.{◌≡◌, ◌<◌, ◌∙◌, ◌++◌, ◌∷◌, [], List, ℕ, Some, arith, ap, length}
use Rattle.std.specs.Prelude.{slice_get}
use Rattle.std.proofs.lemmas.Option.{slice_get-get_or}
use Rattle.value_types.specs.declared.fronts.number.FrontNumber.{FrontNumber}
use Rattle.value_types.specs.declared.types.ColumnType.TheVariants.{Bigint}
use Rattle.value_types.specs.declared.types.Value.TheVariants.{Int}
use Rattle.value_types.specs.Datum.{typed}
use Rattle.column_store.specs.ChunkView.{ChunkView}
use Rattle.range_scan.specs.declared.context.Context.{Context}
use Rattle.range_scan.specs.FastRows.{HoldsNumbers, IsFieldPushed, IsNumberAt, KeepsRows}
use Rattle.range_scan.proofs.PlainFields.{plain_field, plain_is_ascii}

-- the next column takes numbers
pub takes_number : (context : Context) → HoldsNumbers context → (column : ℕ) → column < length context.schema.types → slice_get context.schema.types column ≡ Some Bigint
takes_number context holds column lt = slice_get-get_or context.schema.types column Bigint lt ∙ ap Some (holds.types column Bigint lt)

-- and so it does in the row under way
pub takes_next : (context : Context) → HoldsNumbers context → (first chunk : ChunkView) → first.types ≡ context.schema.types → KeepsRows first chunk → length chunk.unfinished < length first.types →
    slice_get chunk.types (length chunk.unfinished) ≡ Some Bigint
takes_next context holds first chunk types under lt =
    ap (λ tys. slice_get tys (length chunk.unfinished)) (ap (λ x. x.types) under ∙ types) ∙ takes_number context holds (length chunk.unfinished) (omega (arith, lt, ap length types))

pub number_pushed : (context : Context) (holds : HoldsNumbers context) (bytes : List ℕ) (from : ℕ) (old new : ChunkView) (front : FrontNumber) → IsNumberAt bytes from front →
    length old.unfinished < length context.schema.types → new ≡ record old { unfinished = old.unfinished ++ typed (Int front.number) ∷ [] } → IsFieldPushed context Bigint bytes from old new front.end
number_pushed context holds bytes from old new front is lt pushed = record {
  low = omega (arith, is.at.low);
  high = is.at.high;
  cell = typed (Int front.number);
  pushed = pushed;
  is = plain_field Bigint bytes from front.end is.at context holds.fields.plain (length old.unfinished) (takes_number context holds (length old.unfinished) lt) (typed (Int front.number)) is.value;
  ascii = λ other. plain_is_ascii Bigint bytes from front.end is.at;
}
