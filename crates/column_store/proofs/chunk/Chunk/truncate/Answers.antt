use Rattle.std.proofs.Common.{◌≡◌, ◌∙◌, ◌+◌, ◌-◌, [], ap, arith, length, min, subst, take}
use Rattle.std.proofs.lemmas.List.{take_min, with_items_is}
use Rattle.column_store.specs.ChunkView.{chunk_view}
use Rattle.column_store.specs.ColumnChanges.{EachColumn, IsCut}
use Rattle.column_store.proofs.Filled.{rows_seen, seen_cut}
use Rattle.column_store.proofs.chunk.Chunk.truncate.Goals as goal

pub returns : goal.returns
returns c =
    let s = c.self.inside in
    let old = c.args.self.now in
    let count = c.min-rows.result in
    let left = s.spare + (s.rows - count) in
    let ys = c.cut.new.columns in
    let cut : EachColumn (λ _. IsCut count) s.columns.items ys = subst (λ cs. EachColumn (λ _. IsCut count) cs ys) c.deref_mut.ensures.value c.cut.ensures in
    let rows = rows_seen c.self.invariant c.self.view_is in
    let spare : s.spare ≡ old.spare = λ i. (c.self.view_is i).spare in
    let fewer : take count old.rows ≡ take c.args.rows old.rows = ap (λ n. take n old.rows) (c.min-rows.ensures ∙ ap (λ n. min c.args.rows n) rows) ∙ take_min c.args.rows old.rows in
    let more : left ≡ old.spare + (length old.rows - c.args.rows) = omega (arith, c.min-rows.ensures, rows, spare) in
    ap (λ cs. chunk_view cs count 0 left) (with_items_is s.columns ys (omega (arith, cut.count)))
    ∙ seen_cut c.self.invariant c.self.view_is ys count (omega (arith, c.min-rows.ensures)) cut left
    ∙ (λ i. record old { rows = fewer i; unfinished = []; spare = more i })
