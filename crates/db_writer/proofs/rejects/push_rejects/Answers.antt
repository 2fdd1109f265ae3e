use Rattle.db_writer.proofs.RejectRows.{file-appended, file-counted}
use Rattle.db_writer.proofs.rejects.push_rejects.Goals as goal

pub loop-file-preserved : goal.loop-file-preserved
loop-file-preserved c = record {
  rows = file-appended c.args.files.now c.loop-file.file-index c.file-item.result c.args.writer.now c.loop-file.writer c.push_stored.new.writer c.loop-file-test.true c.file-item.is c.loop-file.invariant.rows
      c.in_ok-push_stored.ensures.ok;
  counted = file-counted c.args.files.now c.loop-file.file-index c.file-item.result c.loop-file-test.true c.file-item.is c.loop-file.invariant.counted c.in_ok-push_stored.ensures.counted;
}
