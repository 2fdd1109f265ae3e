-- The rejects of several loaded files (this loader's profile).
use Rattle.std.specs.Prelude.{ℕ, ◌+◌, if◌then◌else◌, Bool, List, [], ◌∷◌, ◌++◌, length, map, sum, flat_map}
use Rattle.csv_sniffer.specs.declared.found.Sniffed.{Sniffed}
use Rattle.file_list.specs.declared.batch.FileBook.{FileBook}
use Rattle.report_text.specs.Lines.{scan_line, error_line}

-- the scan and the stored rejects of each file from a number on, with what was found in the first one
abbrev pub scans_from : Sniffed → ℕ → List FileBook → List ℕ
scans_from s file_id [] = []
scans_from s file_id (file ∷ files) = scan_line s file_id file.name ++ flat_map error_line file.book.stored ++ scans_from s (file_id + 1) files

-- the scans, where rejects are stored
abbrev pub scan_lines : Sniffed → Bool → List FileBook → List ℕ
scan_lines s store files = if store then scans_from s 0 files else []

-- how many rejects are printed, and how many came
abbrev pub stored_in : Bool → List FileBook → ℕ
stored_in store files = if store then sum (map (λ file. length file.book.stored) files) else 0

abbrev pub all_in : List FileBook → ℕ
all_in files = sum (map (λ file. file.book.all) files)
