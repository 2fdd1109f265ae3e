-- The books of several files, one after another.
use Rattle.std.proofs.Common.{◌≡◌, ℕ, ◌+◌, List, ◌∷◌, ◌++◌, map, drop, refl, sym, ap, ◌∙◌, append_assoc, arith, Option, Some, None}
use Rattle.std.specs.Prelude.{flat_map, slice_get, option_map, sum}
use Rattle.std.proofs.lemmas.List.Sums.{sum_by-cons}
use Rattle.csv_sniffer.specs.declared.found.Sniffed.{Sniffed}
use Rattle.file_list.specs.declared.batch.FileBook.{FileBook}
use Rattle.reject_book.specs.BookView.{BookView}
use Rattle.report_text.specs.BatchReport.{scans_from}
use Rattle.report_text.specs.Lines.{scan_line, error_line}
use Rattle.report_text.proofs.Texts.{drop-get}

-- the file at a place has the name and the book that are told of it
from_parts : (o : Option FileBook) (name : List ℕ) (book : BookView) → option_map (λ (file : FileBook). file.name) o ≡ Some name → option_map (λ (file : FileBook). file.book) o ≡ Some book → o ≡ Some (record { name = name; book = book })
from_parts None name book a b = absurd (let wrong : ⊥ = cc in wrong)
from_parts (Some file) name book a b =
    let n : file.name ≡ name = cc in
    let k : file.book ≡ book = cc in
    λ i. Some (record { name = n i; book = k i })

module _ (files : List FileBook) (k : ℕ) (name : List ℕ) (book : BookView) (named : option_map (λ (file : FileBook). file.name) (slice_get files k) ≡ Some name) (booked : option_map (λ (file : FileBook). file.book) (slice_get files k) ≡ Some book) where
  begins : drop k files ≡ record { name = name; book = book } ∷ drop (k + 1) files
  begins = drop-get files k (record { name = name; book = book }) (from_parts (slice_get files k) name book named booked)

  -- one more scan was written
  pub scans_on : (s : Sniffed) (all before scanned stored : List ℕ) → before ++ scans_from s k (drop k files) ≡ all → scanned ≡ before ++ scan_line s k name → stored ≡ scanned ++ flat_map error_line book.stored →
      stored ++ scans_from s (k + 1) (drop (k + 1) files) ≡ all
  scans_on s all before scanned stored so_far scan_is stored_is =
      let line = scan_line s k name in
      let rejects = flat_map error_line book.stored in
      let others = scans_from s (k + 1) (drop (k + 1) files) in
      ap (λ xs. xs ++ others) (stored_is ∙ ap (λ xs. xs ++ rejects) scan_is)
      ∙ ap (λ xs. xs ++ others) (append_assoc before line rejects)
      ∙ append_assoc before (line ++ rejects) others
      ∙ ap (λ fs. before ++ scans_from s k fs) (sym begins)
      ∙ so_far

module _ (files : List FileBook) (k : ℕ) (book : BookView) (booked : option_map (λ (file : FileBook). file.book) (slice_get files k) ≡ Some book) where
  at_place : (o : Option FileBook) → option_map (λ (file : FileBook). file.book) o ≡ Some book → (file : FileBook) × (o ≡ Some file) × (file.book ≡ book)
  at_place None a = absurd (let wrong : ⊥ = cc in wrong)
  at_place (Some file) a = let b : file.book ≡ book = cc in (file, refl, b)

  -- one more book was counted
  pub counted_on : (count_of : BookView → ℕ) (so_far next all : ℕ) → so_far + sum (map (λ (file : FileBook). count_of file.book) (drop k files)) ≡ all → next ≡ so_far + count_of book →
      next + sum (map (λ (file : FileBook). count_of file.book) (drop (k + 1) files)) ≡ all
  counted_on count_of so_far next all is added =
      let file = at_place (slice_get files k) booked in
      let here : sum (map (λ (f : FileBook). count_of f.book) (drop k files)) ≡ count_of file.0.book + sum (map (λ (f : FileBook). count_of f.book) (drop (k + 1) files)) =
      ap (λ fs. sum (map (λ (f : FileBook). count_of f.book) fs)) (drop-get files k file.0 file.1)
      ∙ sum_by-cons (λ n. n) (count_of file.0.book) (map (λ (f : FileBook). count_of f.book) (drop (k + 1) files)) in
      omega (arith, is, added, here, ap count_of file.2)

-- a text that grew once more
pub grown : (before front piece text next : List ℕ) → text ≡ before ++ front → next ≡ text ++ piece → next ≡ before ++ (front ++ piece)
grown before front piece text next is more = more ∙ ap (λ xs. xs ++ piece) is ∙ append_assoc before front piece
