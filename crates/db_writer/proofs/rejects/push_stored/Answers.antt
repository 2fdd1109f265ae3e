use Rattle.db_writer.specs.Rejects.{reject_row}
use Rattle.db_writer.proofs.RejectRows.{one-appended, one-counted}
use Rattle.db_writer.proofs.rejects.push_stored.Goals as goal

pub loop-index-preserved : goal.loop-index-preserved
loop-index-preserved c = record {
  rows = one-appended reject_row c.args.book.now.stored c.loop-index.index c.get.result.now c.args.writer.now c.loop-index.writer c.push_reject.new.writer c.get.ensures c.loop-index.invariant.rows
      c.in_ok-push_reject.ensures.ok;
  counted = one-counted reject_row c.args.book.now.stored c.loop-index.index c.get.result.now c.get.ensures c.loop-index.invariant.counted c.in_ok-push_reject.ensures.counted;
}
