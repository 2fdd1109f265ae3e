use Rattle.std.proofs.Common.{◌≡◌, All, ◌∙◌, ap, arith, length, subst, sym}
use Rattle.std.proofs.lemmas.List.{length-append}
use Rattle.column_store.specs.ChunkView.{ChunkView}
use Rattle.column_store.specs.Ends.{begin_of}
use Rattle.column_store.specs.Stacked.{rows_in}
use Rattle.column_store.proofs.Stack.{length-ends, rows_before_all}
use Rattle.column_store.proofs.table.opening.Front.close.Goals as goal

pub invariant_of-result : goal.invariant_of-result
invariant_of-result c =
    let s = c.self.inside in
    let chunks = s.chunks.items in
    let placed = c.self.invariant.1 in
    let number : c.len.result ≡ length chunks = omega (arith, length-ends 0 chunks, ap length placed) in
    let before : c.rows_before-before.result ≡ length (rows_in chunks) =
    c.rows_before-before.ensures ∙ (λ i. begin_of ((c.deref.ensures.value ∙ placed) i) c.len.result) ∙ rows_before_all chunks c.len.result number in
    record {
      types = subst (All (λ (chunk : ChunkView). chunk.types ≡ c.args.last.types)) (sym c.self.view_is) c.requires.types;
      whole = c.self.invariant.0;
      last_whole = c.requires.whole;
      placed = placed;
      countable = omega (arith, before, c.if-rows-before.false, c.if-spare-before.false, c.rows.ensures, c.spare.ensures.value, c.rows-else-rows-before.ensures, length-append (rows_in chunks) c.args.last.rows);
    }
