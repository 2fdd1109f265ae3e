use Rattle.std.proofs.Common.{◌∙◌, is_some, sym, ap}
use Rattle.std.specs.Prelude.{slice_range}
use Rattle.column_store.proofs.Filled.{on_err}
use Rattle.column_store.proofs.NextColumn.{seen_none, seen_spelled, seen_still, spelled_is}
use Rattle.column_store.proofs.chunk.Chunk.push_spelled.Goals as goal

pub returns-in_err-push_spelled-clause-err : goal.returns-in_err-push_spelled-clause-err
returns-in_err-push_spelled-clause-err c =
    let done = c.in_err-push_spelled.ensures in
    on_err c.from_residual.result (seen_still c.self.invariant c.self.view_is c.requires.next c.index_mut.ensures.value c.push_spelled.new.self done.ty done.room done.err)

pub returns-then-branch-clause-value : goal.returns-then-branch-clause-value
returns-then-branch-clause-value c =
    let text = slice_range c.args.bytes.now c.args.from c.args.end in
    sym c.if-branch.true ∙ c.in_ok-push_spelled.ensures.value ∙ ap is_some (sym (spelled_is c.self.invariant c.self.view_is c.requires.next c.index_mut.ensures.value text))

pub returns-then-branch-clause-ok : goal.returns-then-branch-clause-ok
returns-then-branch-clause-ok c =
    let text = slice_range c.args.bytes.now c.args.from c.args.end in
    let done = c.in_ok-push_spelled.ensures in
    seen_spelled c.self.invariant c.self.view_is c.requires.next c.index_mut.ensures.value c.push_spelled.new.self done.ty done.room text done.ok (sym c.if-branch.true ∙ done.value)

pub returns-clause-value : goal.returns-clause-value
returns-clause-value c =
    let text = slice_range c.args.bytes.now c.args.from c.args.end in
    sym c.if-branch.false ∙ c.in_ok-push_spelled.ensures.value ∙ ap is_some (sym (spelled_is c.self.invariant c.self.view_is c.requires.next c.index_mut.ensures.value text))

pub returns-clause-ok : goal.returns-clause-ok
returns-clause-ok c =
    let text = slice_range c.args.bytes.now c.args.from c.args.end in
    let done = c.in_ok-push_spelled.ensures in
    seen_none c.self.invariant c.self.view_is c.requires.next c.index_mut.ensures.value c.push_spelled.new.self done.ty done.room text done.ok (sym c.if-branch.false ∙ done.value)
