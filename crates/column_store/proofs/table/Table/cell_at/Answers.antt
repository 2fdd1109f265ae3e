use Rattle.std.proofs.Common.{◌≡◌, ◌<◌, ◌∙◌, ◌++◌, sym, ap, arith, length}
use Rattle.std.specs.Prelude.{slice_get}
use Rattle.std.specs.Option.{option_and_then}
use Rattle.column_store.specs.Ends.{begin_of}
use Rattle.column_store.specs.Stacked.{rows_in}
use Rattle.column_store.specs.TableView.{cell_of}
use Rattle.column_store.proofs.Stack.{length-ends, row_in_last, row_there, within_chunk, within_last}
use Rattle.column_store.proofs.table.Table.cell_at.Goals as goal

pub cell_at-requires-clause-row : goal.cell_at-requires-clause-row
cell_at-requires-clause-row c =
    let s = c.self.inside in
    let ends = c.deref.ensures.value ∙ c.self.invariant.placed in
    let low = c.rows_before.ensures ∙ ap (λ es. begin_of es c.chunk_of-number.result) (c.deref-2.ensures.value ∙ sym c.deref.ensures.value) in
    let inside : c.chunk_of-number.result < length s.earlier.items = omega arith in
    within_chunk s.earlier.items s.last.rows c.deref.result.now ends c.chunk_of-number.result c.args.row c.rows_before.result low c.chunk_of-number.ensures.behind
    inside c.index-chunk.result.now c.index-chunk.ensures (c.chunk_of-number.ensures.before (omega (arith, ap length ends, length-ends 0 s.earlier.items)))

pub cell_at-requires-else-number-len-clause-row : goal.cell_at-requires-else-number-len-clause-row
cell_at-requires-else-number-len-clause-row c =
    let s = c.self.inside in
    let ends = c.deref.ensures.value ∙ c.self.invariant.placed in
    let low = c.rows_before.ensures ∙ ap (λ es. begin_of es c.chunk_of-number.result) (c.deref-2.ensures.value ∙ sym c.deref.ensures.value) in
    let last : c.chunk_of-number.result ≡ length s.earlier.items = omega (arith, c.chunk_of-number.ensures.within, ap length ends, length-ends 0 s.earlier.items) in
    let rows : length (rows_in s.earlier.items ++ s.last.rows) ≡ length c.args.self.now.rows = λ i. length (c.self.view_is i).rows in
    within_last s.earlier.items s.last.rows c.deref.result.now ends c.chunk_of-number.result c.args.row c.rows_before.result low c.chunk_of-number.ensures.behind
    last (omega (arith, c.requires.row, rows))

pub returns-then-number-len : goal.returns-then-number-len
returns-then-number-len c =
    let s = c.self.inside in
    let ends = c.deref.ensures.value ∙ c.self.invariant.placed in
    let low = c.rows_before.ensures ∙ ap (λ es. begin_of es c.chunk_of-number.result) (c.deref-2.ensures.value ∙ sym c.deref.ensures.value) in
    let inside : c.chunk_of-number.result < length s.earlier.items = omega arith in
    sym (λ i. cell_of (c.self.view_is i).rows c.args.column c.args.row)
    ∙ ap (λ o. option_and_then (λ cells. slice_get cells c.args.column) o)
    (row_there s.earlier.items s.last.rows c.deref.result.now ends c.chunk_of-number.result c.args.row c.rows_before.result low c.chunk_of-number.ensures.behind
    inside c.index-chunk.result.now c.index-chunk.ensures (c.chunk_of-number.ensures.before (omega (arith, ap length ends, length-ends 0 s.earlier.items))))
    ∙ c.cell_at.ensures

pub returns-else-number-len : goal.returns-else-number-len
returns-else-number-len c =
    let s = c.self.inside in
    let ends = c.deref.ensures.value ∙ c.self.invariant.placed in
    let low = c.rows_before.ensures ∙ ap (λ es. begin_of es c.chunk_of-number.result) (c.deref-2.ensures.value ∙ sym c.deref.ensures.value) in
    let last : c.chunk_of-number.result ≡ length s.earlier.items = omega (arith, c.chunk_of-number.ensures.within, ap length ends, length-ends 0 s.earlier.items) in
    sym (λ i. cell_of (c.self.view_is i).rows c.args.column c.args.row)
    ∙ ap (λ o. option_and_then (λ cells. slice_get cells c.args.column) o)
    (row_in_last s.earlier.items s.last.rows c.deref.result.now ends c.chunk_of-number.result c.args.row c.rows_before.result low c.chunk_of-number.ensures.behind
    last)
    ∙ c.cell_at-else-number-len.ensures
