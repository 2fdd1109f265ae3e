use Rattle.std.proofs.Common.{◌≡◌, ◌∙◌, ap, arith, max, subst}
use Rattle.std.proofs.lemmas.List.{with_items_is}
use Rattle.column_store.specs.ChunkView.{chunk_view}
use Rattle.column_store.specs.ColumnChanges.{EachColumn, KeepsCells}
use Rattle.column_store.proofs.Filled.{cells_kept, on_err, seen_kept}
use Rattle.column_store.proofs.chunk.Chunk.reserve_rows.Goals as goal

pub returns-in_err-reserve-clause-err : goal.returns-in_err-reserve-clause-err
returns-in_err-reserve-clause-err c =
    let s = c.self.inside in
    let ys = c.reserve.new.columns in
    let kept = cells_kept s.columns.items ys (subst (λ cs. EachColumn (λ _. KeepsCells) cs ys) c.deref_mut.ensures.value c.reserve.ensures.same) in
    on_err c.from_residual.result
    (ap (λ cs. chunk_view cs s.rows s.begun s.spare) (with_items_is s.columns ys (omega (arith, kept.count))) ∙ seen_kept s.columns.items ys kept s.rows s.begun s.spare ∙ c.self.view_is)

pub returns-clause-ok : goal.returns-clause-ok
returns-clause-ok c =
    let s = c.self.inside in
    let ys = c.reserve.new.columns in
    let more = c.args.more in
    let kept = cells_kept s.columns.items ys (subst (λ cs. EachColumn (λ _. KeepsCells) cs ys) c.deref_mut.ensures.value c.reserve.ensures.same) in
    let spare : s.spare ≡ c.args.self.now.spare = λ i. (c.self.view_is i).spare in
    let most : more ≡ max c.args.self.now.spare more = omega (arith, c.if-more-self.false, spare) in
    ap (λ cs. chunk_view cs s.rows s.begun more) (with_items_is s.columns ys (omega (arith, kept.count))) ∙ seen_kept s.columns.items ys kept s.rows s.begun more
    ∙ (λ i. record (c.self.view_is i) { spare = most i })
