use Rattle.std.proofs.Common.{◌∙◌, [], ap, arith, subst}
use Rattle.std.proofs.lemmas.List.{take_all, with_items_is}
use Rattle.column_store.specs.ChunkView.{chunk_view}
use Rattle.column_store.specs.ColumnChanges.{EachColumn, IsCut}
use Rattle.column_store.proofs.Filled.{rows_seen, seen_cut}
use Rattle.column_store.proofs.chunk.Chunk.drop_unfinished_row.Goals as goal

pub returns : goal.returns
returns c =
    let s = c.self.inside in
    let old = c.args.self.now in
    let ys = c.cut_first.new.columns in
    let cut : EachColumn (λ _. IsCut s.rows) s.columns.items ys = subst (λ cs. EachColumn (λ _. IsCut s.rows) cs ys) c.deref_mut.ensures.value c.cut_first.ensures in
    ap (λ cs. chunk_view cs s.rows 0 s.spare) (with_items_is s.columns ys (omega (arith, cut.count)))
    ∙ seen_cut c.self.invariant c.self.view_is ys s.rows (omega arith) cut s.spare
    ∙ (λ i. record old { rows = take_all s.rows old.rows (omega (arith, rows_seen c.self.invariant c.self.view_is)) i; unfinished = []; spare = (c.self.view_is i).spare })
