use Rattle.std.proofs.Common.{◌∙◌, ap, arith, subst, sym}
use Rattle.std.proofs.lemmas.List.{with_items_is}
use Rattle.column_store.specs.ChunkView.{chunk_view}
use Rattle.column_store.specs.ColumnChanges.{EachColumn, HasCells}
use Rattle.column_store.specs.IsFilled.{IsFilled}
use Rattle.column_store.proofs.Filled.{filled_packed, seen_kept}
use Rattle.column_store.proofs.chunk.Chunk.pack.Goals as goal

pub invariant_of-self : goal.invariant_of-self
invariant_of-self c =
    let s = c.self.inside in
    let ys = c.pack.new.columns in
    let kept : EachColumn (λ _. HasCells) s.columns.items ys = subst (λ cs. EachColumn (λ _. HasCells) cs ys) c.deref_mut.ensures.value c.pack.ensures in
    subst (λ cs. IsFilled cs s.rows s.begun 0) (sym (with_items_is s.columns ys (omega (arith, kept.count)))) (filled_packed c.self.invariant ys kept)

pub returns : goal.returns
returns c =
    let s = c.self.inside in
    let ys = c.pack.new.columns in
    let kept : EachColumn (λ _. HasCells) s.columns.items ys = subst (λ cs. EachColumn (λ _. HasCells) cs ys) c.deref_mut.ensures.value c.pack.ensures in
    ap (λ cs. chunk_view cs s.rows s.begun 0) (with_items_is s.columns ys (omega (arith, kept.count))) ∙ seen_kept s.columns.items ys kept s.rows s.begun 0
    ∙ (λ i. record (c.self.view_is i) { spare = 0 })
