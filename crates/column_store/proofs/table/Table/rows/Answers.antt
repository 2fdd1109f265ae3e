use Rattle.std.proofs.Common.{◌≡◌, ◌∙◌, ◌+◌, ap, arith, length}
use Rattle.std.proofs.lemmas.List.{length-append}
use Rattle.column_store.specs.Ends.{begin_of}
use Rattle.column_store.specs.Stacked.{rows_in}
use Rattle.column_store.proofs.Stack.{length-ends, rows_before_all}
use Rattle.column_store.proofs.table.Table.rows.Goals as goal

pub overflow_add-result : goal.overflow_add-result
overflow_add-result c =
    let s = c.self.inside in
    let chunks = s.earlier.items in
    let number : c.len.result ≡ length chunks = omega (arith, length-ends 0 chunks, ap length c.self.invariant.placed) in
    let before : c.rows_before.result ≡ length (rows_in chunks) =
    c.rows_before.ensures ∙ (λ i. begin_of ((c.deref.ensures.value ∙ c.self.invariant.placed) i) c.len.result) ∙ rows_before_all chunks c.len.result number in
    omega (arith, c.self.invariant.countable, length-append (rows_in chunks) s.last.rows)

pub returns : goal.returns
returns c =
    let s = c.self.inside in
    let chunks = s.earlier.items in
    let number : c.len.result ≡ length chunks = omega (arith, length-ends 0 chunks, ap length c.self.invariant.placed) in
    let before : c.rows_before.result ≡ length (rows_in chunks) =
    c.rows_before.ensures ∙ (λ i. begin_of ((c.deref.ensures.value ∙ c.self.invariant.placed) i) c.len.result) ∙ rows_before_all chunks c.len.result number in
    (λ i. before i + c.rows.ensures i) ∙ (omega (arith, length-append (rows_in chunks) s.last.rows)) ∙ (λ i. length (c.self.view_is i).rows)
