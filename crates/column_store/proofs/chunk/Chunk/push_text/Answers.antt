use Rattle.std.proofs.Common.{length}
use Rattle.std.proofs.lemmas.Option.{slice_get_within}
use Rattle.value_types.specs.declared.types.ColumnType.TheVariants.{Varchar}
use Rattle.value_types.specs.Datum.{text}
use Rattle.column_store.proofs.Filled.{on_err}
use Rattle.column_store.proofs.NextColumn.{filled_more, seen_more, seen_still}
use Rattle.column_store.proofs.chunk.Chunk.push_text.Goals as goal

pub returns-in_err-push_text-clause-err : goal.returns-in_err-push_text-clause-err
returns-in_err-push_text-clause-err c =
    let next = slice_get_within c.args.self.now.types (length c.args.self.now.unfinished) Varchar c.requires.next in
    let done = c.in_err-push_text.ensures in
    on_err c.from_residual.result (seen_still c.self.invariant c.self.view_is next c.index_mut.ensures.value c.push_text.new.self done.ty done.room done.err)

pub invariant_of-self-2 : goal.invariant_of-self-2
invariant_of-self-2 c =
    let next = slice_get_within c.args.self.now.types (length c.args.self.now.unfinished) Varchar c.requires.next in
    let done = c.in_ok-push_text.ensures in
    filled_more c.self.invariant c.self.view_is next c.index_mut.ensures.value c.push_text.new.self done.ty done.room (text c.args.bytes.now) done.ok

pub returns-clause-ok : goal.returns-clause-ok
returns-clause-ok c =
    let next = slice_get_within c.args.self.now.types (length c.args.self.now.unfinished) Varchar c.requires.next in
    let done = c.in_ok-push_text.ensures in
    seen_more c.self.invariant c.self.view_is next c.index_mut.ensures.value c.push_text.new.self done.ty done.room (text c.args.bytes.now) done.ok
