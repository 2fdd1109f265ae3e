use Rattle.std.proofs.Common.{[], ◌++◌, ◌∙◌, List, ap, subst, arith, append_assoc}
use Rattle.std.specs.Prelude.{if◌then◌else◌}
use Rattle.value_types.specs.Datum.{Datum}
use Rattle.column_store.specs.Stacked.{rows_in}
use Rattle.column_store.specs.TableView.{column_of}
use Rattle.npz_writer.specs.Walks.{Steps, WalkView, chunks_to_come, rows_to_come}
use Rattle.npz_writer.proofs.WalkSteps.{chunk_step, first_type, first_walk, last_within, view_of}
use Rattle.npz_writer.proofs.walk.Walk.next.Goals as goal

pub invariant_of-self-in-Some : goal.invariant_of-self-in-Some
invariant_of-self-in-Some c =
    let w = c.self.inside in
    first_walk w.part w.run c.of-self-inside.result w.column w.later.now c.in-Some.later.now c.in-Some.chunk.now w.last.now c.self.invariant c.in-Some.ensures.cases.0 c.of-self-inside.ensures.ty
    (c.of-self-inside.ensures.is w.part)

pub returns-in-Some : goal.returns-in-Some
returns-in-Some c =
    let w = c.self.inside in
    let new = c.of-self-inside.ensures in
    let ended = c.has_more.ensures.no c.if-has_more.false in
    let last : List (List Datum) = if w.last_comes then w.last.now.rows else [] in
    let rest_rows : List (List Datum) = rows_to_come c.in-Some.later.now w.last_comes w.last.now in
    let after : WalkView = view_of w.part c.of-self-inside.result (column_of rest_rows w.column) (chunks_to_come c.in-Some.later.now w.last_comes) in
    subst (λ (v : WalkView). Steps v after 0 c.args.block.now) c.self.view_is
    (chunk_step w.part w.run c.of-self-inside.result w.column c.in-Some.chunk.now.rows (rows_to_come w.later.now w.last_comes w.last.now) rest_rows
    (chunks_to_come w.later.now w.last_comes) (chunks_to_come c.in-Some.later.now w.last_comes) c.args.block.now ended.0 ended.1
    (first_type w.part w.run c.of-self-inside.result w.column w.later.now c.in-Some.later.now c.in-Some.chunk.now w.last.now c.self.invariant c.in-Some.ensures.cases.0 new.ty) new.pending new.begin new.cells
    (ap (λ chunks. rows_in chunks ++ last) c.in-Some.ensures.cases.0 ∙ append_assoc c.in-Some.chunk.now.rows (rows_in c.in-Some.later.now) last) (omega (arith, c.in-Some.ensures.cases.1)))

pub of-self-inside-requires-then-self : goal.of-self-inside-requires-then-self
of-self-inside-requires-then-self c =
    let w = c.self.inside in
    last_within w.part w.run w.run w.column w.later.now w.later.now w.last.now w.last.now c.self.invariant
