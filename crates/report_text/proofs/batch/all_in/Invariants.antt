use Rattle.std.proofs.Common.{◌≡◌, ◌+◌, drop, map}
use Rattle.std.specs.Prelude.{sum}
use Rattle.file_list.specs.declared.batch.FileBook.{FileBook}
use Rattle.report_text.proofs.batch.all_in.Given as goal

abbrev pub invariant-loop-index : goal.invariant-loop-index
invariant-loop-index l = l.count + sum (map (λ (file : FileBook). file.book.all) (drop l.index l.batch.files)) ≡ sum (map (λ (file : FileBook). file.book.all) l.batch.files)
