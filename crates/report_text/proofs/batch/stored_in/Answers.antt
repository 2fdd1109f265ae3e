use Rattle.std.proofs.Common.{◌+◌, map, length, ap, ◌∙◌}
use Rattle.std.specs.Prelude.{sum}
use Rattle.file_list.specs.declared.batch.FileBook.{FileBook}
use Rattle.reject_book.specs.BookView.{BookView}
use Rattle.report_text.proofs.FileBooks.{counted_on}
use Rattle.report_text.proofs.batch.stored_in.Goals as goal

pub loop-index-preserved : goal.loop-index-preserved
loop-index-preserved c =
    let files = c.args.batch.now.files in
    counted_on files c.loop-index.index c.book.result.now c.book.ensures (λ (book : BookView). length book.stored) c.loop-index.count c.in_ok-count.count (sum (map (λ (file : FileBook). length file.book.stored) files))
    c.loop-index.invariant (c.in_ok-count.ensures.ok ∙ ap (λ n. c.loop-index.count + n) c.len.ensures)
