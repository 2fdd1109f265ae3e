use Rattle.std.proofs.Common.{◌≡◌, ◌++◌, ◌∙◌, List, ap, sym, slice_index_or}
use Rattle.std.specs.Prelude.{slice_get, Some}
use Rattle.std.proofs.lemmas.Option.{get_or_from_slice_get}
use Rattle.value_types.specs.declared.types.ColumnType.{ColumnType}
use Rattle.value_types.specs.declared.types.ColumnType.TheVariants.{Varchar}
use Rattle.column_store.specs.TableView.{column_of}
use Rattle.column_store.specs.ViewTypes.{type_of_view}
use Rattle.npz_writer.specs.Arrays.{array_bytes, bytes_from}
use Rattle.npz_writer.proofs.walk.Walk.of.Goals as goal

pub invariant_of-result : goal.invariant_of-result
invariant_of-result c = record {
  run = c.none.ensures.is c.args.part;
  later = λ k d within. ap (λ types. slice_get types c.args.column) (c.chunks.ensures.types k d within ∙ sym c.chunks.ensures.last_types) ∙ c.none.ensures.ty;
  last = c.none.ensures.ty;
}

pub returns : goal.returns
unfolding array_bytes
returns c =
    let types : List ColumnType = c.args.table.now.types in
    let ty : slice_get types c.args.column ≡ Some (type_of_view c.none.result.view) = ap (λ ts. slice_get ts c.args.column) (sym c.chunks.ensures.last_types) ∙ c.none.ensures.ty in
    let same : type_of_view c.none.result.view ≡ slice_index_or types c.args.column Varchar =
    sym (get_or_from_slice_get types c.args.column (type_of_view c.none.result.view) Varchar ty) in
    λ i. c.none.ensures.pending i
    ++ bytes_from (same i) c.args.part (c.none.ensures.begin i) (c.none.ensures.cells i ++ column_of (sym c.chunks.ensures.rows i) c.args.column)
