-- The whole text of a report (this loader's profile).
use Rattle.std.specs.Prelude.{ℕ, if◌then◌else◌, Bool, true, false, Option, List, [], ◌++◌, length, flat_map}
use Rattle.std.specs.Option.{option_map_or}
use Rattle.csv_sniffer.specs.declared.found.Sniffed.{Sniffed}
use Rattle.file_list.specs.BatchView.{BatchView}
use Rattle.report_text.specs.BatchReport.{scan_lines, stored_in, all_in}
use Rattle.report_text.specs.declared.outcome.Stats.{Stats}
use Rattle.report_text.specs.declared.outcome.Loaded.{Loaded}
use Rattle.report_text.specs.declared.outcome.Outcome.{Outcome}
use Rattle.report_text.specs.declared.outcome.Outcome.TheVariants as outcome
use Rattle.report_text.specs.ExplainedLines.{explanation_lines}
use Rattle.report_text.specs.SplitLines.{split_lines}
use Rattle.report_text.specs.Lines.{options_line, column_lines, row_line, rows_line, scan_line, error_line, errors_line, stats_line, refused_line, read_fault_line, too_large_line, mismatch_line, too_many_faults_line}

-- what was found: the options and the columns
abbrev pub found_lines : Sniffed → List ℕ
found_lines s = options_line s ++ column_lines s

-- the rejects, where they are stored: the scan, and the stored rejects
abbrev pub reject_lines : Loaded → List ℕ
reject_lines l = if l.store then scan_line l.sniffed 0 l.file ++ flat_map error_line l.book.stored else []

abbrev pub stored_count : Loaded → ℕ
stored_count l = if l.store then length l.book.stored else 0

-- the number of rows, the rejects and their numbers, some further lines, and the stats
abbrev pub closing_lines : Loaded → List ℕ → List ℕ
closing_lines l further =
    rows_line (length l.table.rows) ++ reject_lines l ++ errors_line (stored_count l) l.book.all ++ further ++ option_map_or stats_line l.stats []

-- what was found, some lines on the rows, and what stands behind them
abbrev pub loaded_lines : Loaded → List ℕ → List ℕ → List ℕ
loaded_lines l on_rows further = found_lines l.sniffed ++ on_rows ++ closing_lines l further

-- several files: the number of rows, the rejects where they are stored, their numbers, and the stats
abbrev pub batch_closing : Sniffed → BatchView → Bool → Option Stats → List ℕ
batch_closing s batch store stats =
    rows_line (length batch.rows) ++ scan_lines s store batch.files ++ errors_line (stored_in store batch.files) (all_in batch.files)
    ++ option_map_or stats_line stats []

-- several files: what was found in the first one, the rows, and what stands behind them
abbrev pub batch_lines : Sniffed → BatchView → Bool → Option Stats → List ℕ
batch_lines s batch store stats = found_lines s ++ flat_map row_line batch.rows ++ batch_closing s batch store stats

-- whether the rows of a table stand in the report
abbrev pub has_rows : Outcome → Bool
has_rows (outcome.Refused fault word) = false
has_rows outcome.ReadFault = false
has_rows (outcome.TooLarge limit) = false
has_rows (outcome.Mismatch mismatch) = false
has_rows (outcome.TooManyFaults bound) = false
has_rows (outcome.Sniffed s) = false
has_rows (outcome.Explained s e) = false
has_rows (outcome.Split s further cuts) = false
has_rows (outcome.Loaded l) = true
has_rows (outcome.Summary l tap_lines) = false
has_rows (outcome.Batch s batch store stats) = true
has_rows (outcome.FirstError s reject) = false

abbrev pub report_of : Outcome → List ℕ
report_of (outcome.Refused fault word) = refused_line fault word
report_of outcome.ReadFault = read_fault_line
report_of (outcome.TooLarge limit) = too_large_line limit
report_of (outcome.Mismatch mismatch) = mismatch_line mismatch
report_of (outcome.TooManyFaults bound) = too_many_faults_line bound
report_of (outcome.Sniffed s) = found_lines s
report_of (outcome.Explained s e) = found_lines s ++ explanation_lines s e
report_of (outcome.Split s further cuts) = found_lines s ++ split_lines s further cuts
report_of (outcome.Loaded l) = loaded_lines l (flat_map row_line l.table.rows) []
report_of (outcome.Summary l tap_lines) = loaded_lines l [] tap_lines
report_of (outcome.Batch s batch store stats) = batch_lines s batch store stats
report_of (outcome.FirstError s reject) = found_lines s ++ error_line reject

-- how many faults of rows were passed over, as the line of their numbers counts them: none where the report has no such line
abbrev pub faults_in : Outcome → ℕ
faults_in (outcome.Refused fault word) = 0
faults_in outcome.ReadFault = 0
faults_in (outcome.TooLarge limit) = 0
faults_in (outcome.Mismatch mismatch) = 0
faults_in (outcome.TooManyFaults bound) = 0
faults_in (outcome.Sniffed s) = 0
faults_in (outcome.Explained s e) = 0
faults_in (outcome.Split s further cuts) = 0
faults_in (outcome.Loaded l) = l.book.all
faults_in (outcome.Summary l tap_lines) = l.book.all
faults_in (outcome.Batch s batch store stats) = all_in batch.files
faults_in (outcome.FirstError s reject) = 0
