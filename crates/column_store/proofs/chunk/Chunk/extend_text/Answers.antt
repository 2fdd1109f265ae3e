use Rattle.std.proofs.Common.{◌∙◌, sym}
use Rattle.value_types.proofs.OnLast.{on_last-same}
use Rattle.column_store.specs.ColumnCells.{cells_of}
use Rattle.column_store.specs.LongerText.{longer}
use Rattle.column_store.proofs.Filled.{on_err}
use Rattle.column_store.proofs.LastCells.{last_changed, last_filled, last_still}
use Rattle.column_store.proofs.chunk.Chunk.extend_text.Goals as goal

pub invariant_of-self : goal.invariant_of-self
invariant_of-self c =
    let done = c.in_err-extend_text.ensures in
    last_filled c.self.invariant c.self.view_is c.requires.some c.index_mut.ensures.value c.extend_text.new.self done.ty done.room (λ cell. cell) (done.err ∙ sym (on_last-same (cells_of c.index_mut.result.now)))

pub returns-in_err-extend_text-clause-err : goal.returns-in_err-extend_text-clause-err
returns-in_err-extend_text-clause-err c =
    let done = c.in_err-extend_text.ensures in
    on_err c.from_residual.result (last_still c.self.invariant c.self.view_is c.requires.some c.index_mut.ensures.value c.extend_text.new.self done.ty done.room done.err)

pub invariant_of-self-2 : goal.invariant_of-self-2
invariant_of-self-2 c =
    let done = c.in_ok-extend_text.ensures in
    last_filled c.self.invariant c.self.view_is c.requires.some c.index_mut.ensures.value c.extend_text.new.self done.ty done.room (longer c.args.more.now) done.ok

pub returns-clause-ok : goal.returns-clause-ok
returns-clause-ok c =
    let done = c.in_ok-extend_text.ensures in
    last_changed c.self.invariant c.self.view_is c.requires.some c.index_mut.ensures.value c.extend_text.new.self done.ty done.room (longer c.args.more.now) done.ok
