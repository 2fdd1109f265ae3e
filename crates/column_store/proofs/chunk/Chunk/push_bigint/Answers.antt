use Rattle.std.proofs.Common.{◌∙◌, ◌++◌, ◌∷◌, [], ap, length, w64}
use Rattle.std.proofs.lemmas.Int.{to_z-of_z}
use Rattle.std.proofs.lemmas.Option.{slice_get_within}
use Rattle.value_types.specs.declared.types.ColumnType.TheVariants.{Bigint}
use Rattle.value_types.specs.declared.types.Value.TheVariants.{Int}
use Rattle.value_types.specs.Datum.{typed}
use Rattle.column_store.specs.ColumnCells.{cells_of}
use Rattle.column_store.proofs.Filled.{on_err}
use Rattle.column_store.proofs.NextColumn.{filled_more, seen_more, seen_still}
use Rattle.column_store.proofs.chunk.Chunk.push_bigint.Goals as goal

pub returns-in_err-push_bigint-clause-err : goal.returns-in_err-push_bigint-clause-err
returns-in_err-push_bigint-clause-err c =
    let next = slice_get_within c.args.self.now.types (length c.args.self.now.unfinished) Bigint c.requires.next in
    let done = c.in_err-push_bigint.ensures in
    on_err c.from_residual.result (seen_still c.self.invariant c.self.view_is next c.index_mut.ensures.value c.push_bigint.new.self done.ty done.room done.err)

pub invariant_of-self-2 : goal.invariant_of-self-2
invariant_of-self-2 c =
    let next = slice_get_within c.args.self.now.types (length c.args.self.now.unfinished) Bigint c.requires.next in
    let done = c.in_ok-push_bigint.ensures in
    let ok = done.ok ∙ ap (λ n. cells_of c.index_mut.result.now ++ typed (Int n) ∷ []) (to_z-of_z w64 c.args.number c.ranges.number) in
    filled_more c.self.invariant c.self.view_is next c.index_mut.ensures.value c.push_bigint.new.self done.ty done.room (typed (Int c.args.number)) ok

pub returns-clause-ok : goal.returns-clause-ok
returns-clause-ok c =
    let next = slice_get_within c.args.self.now.types (length c.args.self.now.unfinished) Bigint c.requires.next in
    let done = c.in_ok-push_bigint.ensures in
    let ok = done.ok ∙ ap (λ n. cells_of c.index_mut.result.now ++ typed (Int n) ∷ []) (to_z-of_z w64 c.args.number c.ranges.number) in
    seen_more c.self.invariant c.self.view_is next c.index_mut.ensures.value c.push_bigint.new.self done.ty done.room (typed (Int c.args.number)) ok
