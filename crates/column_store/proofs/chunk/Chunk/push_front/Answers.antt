use Rattle.std.proofs.Common.{◌≡◌, ◌∙◌, ◌++◌, ℕ, Option, subst, sym}
use Rattle.std.specs.Prelude.{slice_range, IfSome}
use Rattle.std.specs.Option.{option_to_list}
use Rattle.std.proofs.lemmas.Option.{same_Some}
use Rattle.value_types.specs.OfType.{typed_cell}
use Rattle.value_types.specs.Plain.{IsPlainAt}
use Rattle.column_store.specs.ColumnCells.{cells_of, type_of}
use Rattle.column_store.proofs.Filled.{on_err}
use Rattle.column_store.proofs.NextColumn.{next_type, seen_spelled, seen_still}
use Rattle.column_store.proofs.chunk.Chunk.push_front.Goals as goal

pub returns-in_err-end-clause-err : goal.returns-in_err-end-clause-err
returns-in_err-end-clause-err c =
    let done = c.in_err-end.ensures in
    on_err c.from_residual.result (seen_still c.self.invariant c.self.view_is c.requires.next c.index_mut.ensures.value c.push_front.new.self done.ty done.room done.err)

pub returns-in-Some-clause-at : goal.returns-in-Some-clause-at
returns-in-Some-clause-at c = λ ty is.
    let was = c.index_mut.result.now in
    let next = next_type c.self.invariant c.self.view_is c.requires.next c.index_mut.ensures.value in
    let at : IsPlainAt (type_of was) c.args.bytes.now c.args.from c.in-Some.end =
    subst (λ (o : Option ℕ). IfSome o (IsPlainAt (type_of was) c.args.bytes.now c.args.from)) c.in-Some.is c.in_ok-end.ensures.at in
    subst (λ t. IsPlainAt t c.args.bytes.now c.args.from c.in-Some.end) (same_Some (type_of was) ty (sym next ∙ is)) at

pub returns-in-Some-clause-ok : goal.returns-in-Some-clause-ok
returns-in-Some-clause-ok c =
    let text = slice_range c.args.bytes.now c.args.from c.in-Some.end in
    let was = c.index_mut.result.now in
    let column = c.push_front.new.self in
    let done = c.in_ok-end.ensures in
    let at : IsPlainAt (type_of was) c.args.bytes.now c.args.from c.in-Some.end =
    subst (λ (o : Option ℕ). IfSome o (IsPlainAt (type_of was) c.args.bytes.now c.args.from)) c.in-Some.is done.at in
    let ok : cells_of column ≡ cells_of was ++ option_to_list (typed_cell text (type_of was)) =
    subst (λ (o : Option ℕ). IfSome o (λ end. cells_of column ≡ cells_of was ++ option_to_list (typed_cell (slice_range c.args.bytes.now c.args.from end) (type_of was)))) c.in-Some.is done.ok in
    seen_spelled c.self.invariant c.self.view_is c.requires.next c.index_mut.ensures.value column done.ty done.room text ok (sym at.spelled)

pub returns-in-None-clause-none : goal.returns-in-None-clause-none
returns-in-None-clause-none c = λ none.
    let done = c.in_ok-end.ensures in
    seen_still c.self.invariant c.self.view_is c.requires.next c.index_mut.ensures.value c.push_front.new.self done.ty done.room (done.none c.in-None.is)
