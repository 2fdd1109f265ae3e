use Rattle.std.proofs.Common.{◌∙◌, ◌-◌, ◌++◌, ◌∷◌, [], arith}
use Rattle.column_store.proofs.Filled.{filled_finish, rows_seen, seen_finish}
use Rattle.column_store.proofs.chunk.Chunk.count_row.Goals as goal

pub overflow_add-self : goal.overflow_add-self
overflow_add-self c = omega (arith, rows_seen c.self.invariant c.self.view_is, c.requires.room)

pub invariant_of-self : goal.invariant_of-self
invariant_of-self c =
    filled_finish c.self.invariant c.self.view_is c.requires.all c.saturating_sub-self-inside.result c.saturating_sub-self-inside.ensures (omega (arith, rows_seen c.self.invariant c.self.view_is, c.requires.room))

pub returns : goal.returns
returns c =
    let old = c.args.self.now in
    let left = c.saturating_sub-self-inside in
    seen_finish c.self.invariant c.self.view_is c.requires.all left.result
    ∙ (λ i. record old { rows = old.rows ++ old.unfinished ∷ []; unfinished = []; spare = (left.ensures ∙ (λ j. (c.self.view_is j).spare - 1)) i })
