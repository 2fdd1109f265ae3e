use Rattle.std.proofs.Common.{List, ℕ, ◌+◌, ◌++◌, ◌∙◌, ap, drop, map}
use Rattle.file_list.specs.declared.batch.FileBook.{FileBook}
use Rattle.npz_writer.specs.RejectSheets.{error_rows, reject_cells}
use Rattle.npz_writer.proofs.Grown.{drop-item, made-more}
use Rattle.npz_writer.proofs.rejects.push_rejects.Goals as goal

pub loop-file-preserved : goal.loop-file-preserved
loop-file-preserved c =
    let files : List FileBook = c.args.files.now in
    let k : ℕ = c.loop-file.file-index in
    let file : FileBook = c.file-item.result in
    record {
      types = c.in_ok-push_stored.ensures.types ∙ c.loop-file.invariant.types;
      rows = made-more c.loop-file.table.rows c.push_stored.new.table.rows (map reject_cells file.book.stored) (error_rows (drop k files)) (error_rows (drop (k + 1) files))
          (c.args.table.now.rows ++ error_rows files) c.in_ok-push_stored.ensures.rows (ap error_rows (drop-item files k file c.loop-file-test.true c.file-item.is)) c.loop-file.invariant.rows;
    }
