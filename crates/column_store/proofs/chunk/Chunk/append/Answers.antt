use Rattle.std.proofs.Common.{◌≡◌, ◌∙◌, sym, ap, arith, length, subst}
use Rattle.std.specs.Prelude.{All}
use Rattle.std.proofs.lemmas.List.{with_items_is}
use Rattle.column_store.specs.ChunkView.{chunk_view}
use Rattle.column_store.specs.ColumnCells.{cells_of}
use Rattle.column_store.specs.ColumnChanges.{EachColumn, IsAppended, KeepsCells}
use Rattle.column_store.specs.IsFilled.{IsFilled}
use Rattle.column_store.proofs.AppendedRows.{all_full, filled_appended, seen_appended}
use Rattle.column_store.proofs.Filled.{cells_kept, on_err, seen_kept}
use Rattle.column_store.proofs.chunk.Chunk.append.Goals as goal

pub append-requires-clause-full : goal.append-requires-clause-full
append-requires-clause-full c =
    subst (λ cs. All (λ column. length (cells_of column) ≡ c.self.inside.rows) cs) (sym c.deref_mut.ensures.value) (all_full c.self.invariant c.self.view_is c.requires.whole)

pub returns-in_err-append-clause-err : goal.returns-in_err-append-clause-err
returns-in_err-append-clause-err c =
    let s = c.self.inside in
    let ys = c.append.new.columns in
    let kept = cells_kept s.columns.items ys (subst (λ cs. EachColumn (λ _. KeepsCells) cs ys) c.deref_mut.ensures.value c.in_err-append.ensures.err) in
    on_err c.from_residual.result
    (ap (λ cs. chunk_view cs s.rows s.begun s.spare) (with_items_is s.columns ys (omega (arith, kept.count))) ∙ seen_kept s.columns.items ys kept s.rows s.begun s.spare ∙ c.self.view_is)

pub invariant_of-self-2 : goal.invariant_of-self-2
invariant_of-self-2 c =
    let s = c.self.inside in
    let ys = c.append.new.columns in
    let appended : EachColumn (IsAppended c.other.inside.columns.items) s.columns.items ys =
    subst (λ cs. EachColumn (IsAppended cs) s.columns.items ys) c.deref.ensures.value (subst (λ cs. EachColumn (IsAppended c.deref.result.now) cs ys) c.deref_mut.ensures.value c.in_ok-append.ensures.ok) in
    subst (λ cs. IsFilled cs c.in-Some.rows s.begun c.saturating_sub-self-inside.result) (sym (with_items_is s.columns ys (omega (arith, appended.count))))
    (filled_appended c.self.invariant c.self.view_is c.requires.whole c.other.invariant c.other.view_is c.requires.other_whole c.requires.types ys appended
    c.in-Some.rows c.saturating_sub-self-inside.result c.in-Some.ensures.1 c.saturating_sub-self-inside.ensures (omega (arith, c.in-Some.ensures)))

pub returns-clause-ok : goal.returns-clause-ok
returns-clause-ok c =
    let s = c.self.inside in
    let ys = c.append.new.columns in
    let appended : EachColumn (IsAppended c.other.inside.columns.items) s.columns.items ys =
    subst (λ cs. EachColumn (IsAppended cs) s.columns.items ys) c.deref.ensures.value (subst (λ cs. EachColumn (IsAppended c.deref.result.now) cs ys) c.deref_mut.ensures.value c.in_ok-append.ensures.ok) in
    ap (λ cs. chunk_view cs c.in-Some.rows s.begun c.saturating_sub-self-inside.result) (with_items_is s.columns ys (omega (arith, appended.count)))
    ∙ seen_appended c.self.invariant c.self.view_is c.requires.whole c.other.invariant c.other.view_is c.requires.other_whole c.requires.types ys appended
    c.in-Some.rows c.saturating_sub-self-inside.result c.in-Some.ensures.1 c.saturating_sub-self-inside.ensures
