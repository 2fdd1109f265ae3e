use Rattle.std.proofs.Common.{List, ℕ, [], ◌+◌, ◌∷◌, ◌++◌, ◌∙◌, ap, drop, map}
use Rattle.db_writer.proofs.RowsLaid.{drop-at}
use Rattle.reject_book.specs.declared.reject.Reject.{Reject}
use Rattle.npz_writer.specs.RejectSheets.{reject_cells}
use Rattle.npz_writer.proofs.Grown.{made-more}
use Rattle.npz_writer.proofs.rejects.push_stored.Goals as goal

pub loop-index-preserved : goal.loop-index-preserved
loop-index-preserved c =
    let rejects : List Reject = c.args.book.now.stored in
    let k : ℕ = c.loop-index.index in
    let reject : Reject = c.get.result.now in
    record {
      types = c.in_ok-push_reject.ensures.types ∙ c.loop-index.invariant.types;
      rows = made-more c.loop-index.table.rows c.push_reject.new.table.rows (reject_cells reject ∷ []) (map reject_cells (drop k rejects)) (map reject_cells (drop (k + 1) rejects))
          (c.args.table.now.rows ++ map reject_cells rejects) c.in_ok-push_reject.ensures.rows (ap (map reject_cells) (drop-at rejects k reject c.get.ensures)) c.loop-index.invariant.rows;
    }
