use Rattle.std.proofs.Common.{◌++◌}
use Rattle.report_text.specs.BatchReport.{scans_from}
use Rattle.report_text.proofs.FileBooks.{scans_on}
use Rattle.report_text.proofs.batch.push_scans.Goals as goal

pub loop-index-preserved : goal.loop-index-preserved
loop-index-preserved c =
    let s = c.args.sniffed.now in
    let files = c.args.batch.now.files in
    scans_on files c.loop-index.index c.file.result.now c.book.result.now c.file.ensures c.book.ensures s (c.args.into.now.text ++ scans_from s 0 files)
    c.loop-index.into.text c.push_scan.new.into.text c.push_stored.new.into.text c.loop-index.invariant c.in_ok-push_scan.ensures c.in_ok-push_stored.ensures
