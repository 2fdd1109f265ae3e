use Rattle.std.proofs.Common.{◌≡◌, List, ℕ, [], ◌+◌, ◌∷◌, ◌++◌, ◌∙◌, ap, drop, sym}
use Rattle.csv_sniffer.specs.declared.found.Sniffed.{Sniffed}
use Rattle.file_list.specs.declared.batch.FileBook.{FileBook}
use Rattle.npz_writer.specs.RejectSheets.{scan_cells, scan_rows}
use Rattle.npz_writer.proofs.Grown.{drop-item, made-more}
use Rattle.npz_writer.proofs.scans.push_scans.Goals as goal

pub loop-index-preserved : goal.loop-index-preserved
loop-index-preserved c =
    let s : Sniffed = c.args.sniffed.now in
    let files : List FileBook = c.args.files.now in
    let k : ℕ = c.loop-index.index in
    let file : FileBook = c.index-files-index.result in
    let name : List ℕ = c.as_slice-file.result.now in
    let named : name ≡ file.name = c.as_slice-file.ensures ∙ ap (λ (f : FileBook). f.name) (sym c.index-files-index.is) in
    let later = scan_rows s (k + 1) (drop (k + 1) files) in
    record {
      types = c.in_ok-push_scan.ensures.types ∙ c.loop-index.invariant.types;
      rows = made-more c.loop-index.table.rows c.push_scan.new.table.rows (scan_cells s k name ∷ []) (scan_rows s k (drop k files)) later
          (c.args.table.now.rows ++ scan_rows s 0 files) c.in_ok-push_scan.ensures.rows
          (ap (scan_rows s k) (drop-item files k file c.loop-index-test.true c.index-files-index.is) ∙ ap (λ n. scan_cells s k n ∷ later) (sym named)) c.loop-index.invariant.rows;
    }
