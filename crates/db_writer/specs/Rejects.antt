-- Scans and rejects as rows of a database (the columns are those of DuckDB's manual, "Reading Faulty CSV Files", `reject_scans` and `reject_errors`).
use Rattle.std.specs.Prelude.{ℕ, ◌+◌, pos, List, [], ◌∷◌, codes, length, map, flat_map, All}
use Rattle.std.specs.Option.{option_to_list}
use Rattle.sqlite_value.specs.declared.value.Value.TheVariants.{Int, Text}
use Rattle.sqlite_value.specs.Order.{Row}
use Rattle.value_types.specs.ValueText.{truth_text}
use Rattle.csv_sniffer.specs.declared.found.Newline.{Newline}
use Rattle.csv_sniffer.specs.declared.found.Newline.TheVariants as newline
use Rattle.csv_sniffer.specs.declared.found.Sniffed.{Sniffed}
use Rattle.reject_book.specs.declared.reject.Reject.{Reject}
use Rattle.reject_book.specs.Fields.{fields_of}
use Rattle.file_list.specs.declared.batch.FileBook.{FileBook}
use Rattle.db_records.specs.Record.{IsWritable}
use Rattle.db_writer.specs.Field.{stored_field}
use Rattle.db_writer.specs.Stored.{text_or_blob}

-- the bytes of a line end, or what stands in their place
abbrev pub newline_bytes : Newline → List ℕ
newline_bytes newline.Lf = 10 ∷ []
newline_bytes newline.Cr = 13 ∷ []
newline_bytes newline.CrLf = 13 ∷ 10 ∷ []
newline_bytes newline.Mixed = codes "mixed"
newline_bytes newline.None = codes "none"

-- the scan of the file of a number; an absent quote or escape is the empty text
abbrev pub scan_row : Sniffed → ℕ → List ℕ → Row
scan_row s file_id file =
    Int (pos 0) ∷ Int (pos file_id) ∷ text_or_blob file ∷ Text (s.dialect.delim ∷ []) ∷ Text (option_to_list s.dialect.quote) ∷ Text (option_to_list s.dialect.escape)
    ∷ Text (newline_bytes s.newline) ∷ Int (pos s.skip) ∷ Text (truth_text s.header) ∷ Int (pos (length s.types)) ∷ []

abbrev pub reject_row : Reject → Row
reject_row r = map stored_field (fields_of r)

-- the scans of files from a number on
abbrev pub scan_rows : Sniffed → ℕ → List FileBook → List Row
scan_rows s file_id [] = []
scan_rows s file_id (file ∷ files) = scan_row s file_id file.name ∷ scan_rows s (file_id + 1) files

-- the stored rejects of files
abbrev pub reject_rows : List FileBook → List Row
reject_rows files = flat_map (λ file. map reject_row file.book.stored) files

-- the numbers of scans and rejects are ones of 64 bits with a sign
pub record AreCounted (s : Sniffed) (files : List FileBook) : Type 0 where
  pub scans : All (All IsWritable) (scan_rows s 0 files)
  pub rejects : All (All IsWritable) (reject_rows files)
