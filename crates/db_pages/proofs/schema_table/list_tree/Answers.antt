use Rattle.std.proofs.Common.{◌≡◌, ◌+◌, ◌∷◌, [], ◌∙◌, List, ℕ, Vec, Global, length, take, ap, sym, arith, length-take-le}
use Rattle.std.proofs.lemmas.List.{take_all}
use Rattle.std.proofs.lemmas.Result.{IfOk-weaker}
use Rattle.db_pages.specs.Grown.{Filled, closed, filled, tree_of, tree_over}
use Rattle.db_pages.specs.Laid.{with_rows}
use Rattle.db_pages.proofs.Rows.{bytes_of, filled-more, length-bytes, rows-more}
use Rattle.db_pages.proofs.schema_table.list_tree.Goals as goal

pub loop-row-preserved : goal.loop-row-preserved
loop-row-preserved c =
    let rows : List (Vec ℕ Global) = c.args.rows.now in
    let at : ℕ = c.loop-row.row-index in
    let so_far : List (List ℕ) = bytes_of (take at rows) in
    let row : Vec ℕ Global = c.row-item.result in
    let count : length so_far ≡ at = omega (arith, length-bytes (take at rows), length-take-le at rows (omega (arith, c.loop-row-test.true))) in
    let rowid : c.in_ok-rowid.rowid ≡ c.loop-row.rowid + 1 = grind arith in
    record {
      rowid = omega (arith, rowid, c.loop-row.invariant.rowid);
      leaves = c.in_ok-push.ensures.ok
          ∙ ap (λ (f : Filled). record { base = f.base; laid = with_rows f.base f.laid c.loop-row.rowid (c.deref.result.now ∷ []) }) c.loop-row.invariant.leaves
          ∙ ap (λ xs. record { base = c.args.base; laid = with_rows c.args.base (filled c.args.base 1 so_far).laid c.loop-row.rowid (xs ∷ []) }) c.deref.ensures.value
          ∙ filled-more c.args.base c.loop-row.rowid so_far row.items (omega (arith, c.loop-row.invariant.rowid, count))
          ∙ ap (λ xs. filled c.args.base 1 xs) (sym (rows-more rows at row c.loop-row-test.true c.row-item.is));
    }

pub returns : goal.returns
returns c =
    let rows : List (Vec ℕ Global) = c.args.rows.now in
    let all : take c.loop-row.row-index rows ≡ rows = take_all c.loop-row.row-index rows (omega (arith, c.loop-row-test.false)) in
    IfOk-weaker c.finish.result (λ tree. tree ≡ tree_over c.in_ok-of.field-0) (λ tree. tree ≡ tree_of c.args.base (bytes_of rows)) (λ tree is. is ∙ ap tree_over (c.in_ok-of.ensures ∙ ap closed (c.loop-row.invariant.leaves ∙ ap (λ xs. filled c.args.base 1 (bytes_of xs)) all))) c.finish.ensures
