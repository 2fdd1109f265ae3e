use Rattle.std.proofs.Common.{◌≡◌, List, [], ◌∷◌, Some, sym, ap, ◌∙◌}
use Rattle.std.specs.Prelude.{option_map, slice_get}
use Rattle.load_options.specs.declared.options.Options.{Options}
use Rattle.reject_book.specs.BookView.{BookView}
use Rattle.file_list.specs.declared.batch.FileBook.{FileBook}
use Rattle.csv_writer.specs.WrittenRejects.{written_rejects}
use Rattle.loader_reply.specs.Reply.{first_file, reply}
use Rattle.loader_reply.specs.declared.ending.Ending.TheVariants as endings
use Rattle.loader_reply.proofs.loader.Loader.rejects_reply.Goals as goal

first_book : (o : Options) (files : List FileBook) (book : BookView) → option_map (λ (file : FileBook). file.book) (slice_get files 0) ≡ Some book → (first_file o files).book ≡ book
first_book o [] book is = absurd (let wrong : ⊥ = cc in wrong)
first_book o (file ∷ files) book is = cc

pub returns : goal.returns
returns g c =
    let same = first_book c.args.self.now.options.now c.args.batch.now.files c.book.result.now c.book.ensures in record {
      ok = c.new.ensures
          ∙ (λ i. reply (endings.Answered (c.in_ok-faults.ensures i) (Some c.args.sniffed.now.noticed)) ((c.in_ok-text.ensures ∙ ap (λ (b : BookView). written_rejects b.stored) (sym same)) i));
    }
