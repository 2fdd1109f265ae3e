use Rattle.std.proofs.Common.{ap, sym, ◌∙◌}
use Rattle.file_list.specs.declared.batch.FileBook.{FileBook}
use Rattle.db_writer.specs.Written.{Written}
use Rattle.db_writer.proofs.RejectRows.{scan-appended, scan-counted}
use Rattle.db_writer.proofs.rejects.push_scans.Goals as goal

pub loop-index-preserved : goal.loop-index-preserved
loop-index-preserved c = record {
  none = ap (λ (w : Written). w.values) c.in_ok-push_scan.ensures.ok;
  rows =
      scan-appended c.args.sniffed.now c.args.files.now c.loop-index.index c.index-files-index.result c.as_slice.result.now c.loop-index.writer c.push_scan.new.writer _ c.loop-index-test.true
      c.index-files-index.is (c.as_slice.ensures ∙ ap (λ (f : FileBook). f.name) (sym c.index-files-index.is)) c.in_ok-push_scan.ensures.ok c.loop-index.invariant.rows;
  counted = scan-counted c.args.sniffed.now c.args.files.now c.loop-index.index c.index-files-index.result c.as_slice.result.now c.loop-index-test.true
      c.index-files-index.is (c.as_slice.ensures ∙ ap (λ (f : FileBook). f.name) (sym c.index-files-index.is)) c.in_ok-push_scan.ensures.counted c.loop-index.invariant.counted;
}
