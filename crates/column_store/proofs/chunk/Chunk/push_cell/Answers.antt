use Rattle.std.proofs.Common.{length}
use Rattle.value_types.specs.Datum.{datum_of}
use Rattle.column_store.proofs.Filled.{on_err}
use Rattle.column_store.proofs.NextCells.{column_there}
use Rattle.column_store.proofs.NextColumn.{filled_more, seen_more, seen_still}
use Rattle.column_store.proofs.chunk.Chunk.push_cell.Goals as goal

pub returns-in_err-push-clause-err : goal.returns-in_err-push-clause-err
returns-in_err-push-clause-err c =
    let next = column_there c.args.self.now.types (length c.args.self.now.unfinished) (datum_of c.args.cell) c.requires in
    let done = c.in_err-push.ensures in
    on_err c.from_residual.result (seen_still c.self.invariant c.self.view_is next c.index_mut.ensures.value c.push.new.self done.ty done.room done.err)

pub invariant_of-self-2 : goal.invariant_of-self-2
invariant_of-self-2 c =
    let next = column_there c.args.self.now.types (length c.args.self.now.unfinished) (datum_of c.args.cell) c.requires in
    let done = c.in_ok-push.ensures in
    filled_more c.self.invariant c.self.view_is next c.index_mut.ensures.value c.push.new.self done.ty done.room (datum_of c.args.cell) done.ok

pub returns-clause-ok : goal.returns-clause-ok
returns-clause-ok c =
    let next = column_there c.args.self.now.types (length c.args.self.now.unfinished) (datum_of c.args.cell) c.requires in
    let done = c.in_ok-push.ensures in
    seen_more c.self.invariant c.self.view_is next c.index_mut.ensures.value c.push.new.self done.ty done.room (datum_of c.args.cell) done.ok
