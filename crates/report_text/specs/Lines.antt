-- The lines of a report, each by its parts (this loader's profile; the fields of scan and error lines are those of DuckDB's manual, "Reading Faulty CSV Files").
use Rattle.std.specs.Prelude.{ℕ, ◌+◌, List, [], ◌∷◌, ◌++◌, length, map, codes, Some}
use Rattle.std.specs.Fmt.{decimal}
use Rattle.value_types.specs.declared.types.ColumnType.{ColumnType}
use Rattle.value_types.specs.TypeName.{name_of_type}
use Rattle.value_types.specs.Datum.{Datum, null, typed, text}
use Rattle.value_types.specs.ValueText.{value_text, truth_text}
use Rattle.csv_source.specs.Line.{line_of}
use Rattle.load_options.specs.declared.words.WordFault.{WordFault}
use Rattle.load_options.specs.declared.words.WordRule.{WordRule}
use Rattle.load_options.specs.declared.words.WordRule.TheVariants.{NoCommand, BadCommand, NoFile, BadOption, BadValue, Repeated, Conflict}
use Rattle.csv_sniffer.specs.declared.found.Newline.{Newline}
use Rattle.csv_sniffer.specs.declared.found.Newline.TheVariants as newline
use Rattle.csv_sniffer.specs.declared.found.Sniffed.{Sniffed}
use Rattle.reject_book.specs.declared.reject.Reject.{Reject}
use Rattle.reject_book.specs.Fields.{Field, fields_of}
use Rattle.reject_book.specs.Fields as fields
use Rattle.report_text.specs.declared.outcome.Mismatch.{Mismatch}
use Rattle.report_text.specs.declared.outcome.Mismatch.TheVariants.{NoColumn, OtherHeader, TooManyColumns, LongName}
use Rattle.report_text.specs.declared.outcome.Stats.{Stats}
use Rattle.csv_source.specs.Shown.{shown, shown_option}

abbrev pub newline_text : Newline → List ℕ
newline_text newline.Lf = codes "\\n"
newline_text newline.Cr = codes "\\r"
newline_text newline.CrLf = codes "\\r\\n"
newline_text newline.Mixed = codes "mixed"
newline_text newline.None = codes "none"

abbrev pub rule_name : WordRule → List ℕ
rule_name NoCommand = codes "NoCommand"
rule_name BadCommand = codes "BadCommand"
rule_name NoFile = codes "NoFile"
rule_name BadOption = codes "BadOption"
rule_name BadValue = codes "BadValue"
rule_name Repeated = codes "Repeated"
rule_name Conflict = codes "Conflict"

-- delimiter, quote, escape, line end, skipped lines and header of what was found
abbrev pub options_line : Sniffed → List ℕ
options_line s = line_of
    (codes "options"
    ∷ (codes "delim=" ++ shown_option (Some s.dialect.delim))
    ∷ (codes "quote=" ++ shown_option s.dialect.quote)
    ∷ (codes "escape=" ++ shown_option s.dialect.escape)
    ∷ (codes "newline=" ++ newline_text s.newline)
    ∷ (codes "skip=" ++ decimal s.skip)
    ∷ (codes "header=" ++ truth_text s.header)
    ∷ [])

-- number, type and name of a column
abbrev pub column_line : ℕ → ColumnType → List ℕ → List ℕ
column_line number ty name = line_of (codes "column" ∷ decimal number ∷ name_of_type ty ∷ shown name ∷ [])

-- one line for each column from a number on
abbrev pub column_lines_from : ℕ → List ColumnType → List (List ℕ) → List ℕ
column_lines_from number [] names = []
column_lines_from number (ty ∷ tys) [] = []
column_lines_from number (ty ∷ tys) (name ∷ names) = column_line number ty name ++ column_lines_from (number + 1) tys names

abbrev pub column_lines : Sniffed → List ℕ
column_lines s = column_lines_from 0 s.types s.names

abbrev pub cell_text : Datum → List ℕ
cell_text null = codes "\\N"
cell_text (typed value) = value_text value
cell_text (text bytes) = shown bytes

abbrev pub row_line : List Datum → List ℕ
row_line cells = line_of (codes "row" ∷ map cell_text cells)

abbrev pub rows_line : ℕ → List ℕ
rows_line count = line_of (codes "rows" ∷ decimal count ∷ [])

-- the scan of the file of a number
abbrev pub scan_line : Sniffed → ℕ → List ℕ → List ℕ
scan_line s file_id file = line_of
    (codes "scan"
    ∷ decimal 0
    ∷ decimal file_id
    ∷ shown file
    ∷ shown_option (Some s.dialect.delim)
    ∷ shown_option s.dialect.quote
    ∷ shown_option s.dialect.escape
    ∷ newline_text s.newline
    ∷ decimal s.skip
    ∷ truth_text s.header
    ∷ decimal (length s.types)
    ∷ [])

-- a number in decimal digits, a text as it is, bytes as they are shown
abbrev pub shown_field : Field → List ℕ
shown_field (fields.number n) = decimal n
shown_field (fields.text t) = t
shown_field (fields.bytes b) = shown b

abbrev pub error_line : Reject → List ℕ
error_line r = line_of (codes "error" ∷ map shown_field (fields_of r))

abbrev pub errors_line : ℕ → ℕ → List ℕ
errors_line stored all = line_of (codes "errors" ∷ decimal stored ∷ decimal all ∷ [])

abbrev pub stats_line : Stats → List ℕ
stats_line s = line_of
    (codes "stats" ∷ (codes "ranges=" ++ decimal s.ranges) ∷ (codes "rescans=" ++ decimal s.rescans) ∷ (codes "scanned=" ++ decimal s.scanned) ∷ [])

abbrev pub refused_line : WordFault → List ℕ → List ℕ
refused_line fault word = line_of (codes "refused" ∷ rule_name fault.rule ∷ decimal fault.index ∷ shown word ∷ [])

abbrev pub read_fault_line : List ℕ
read_fault_line = line_of (codes "fault" ∷ codes "read" ∷ [])

abbrev pub too_large_line : ℕ → List ℕ
too_large_line limit = line_of (codes "fault" ∷ (codes "input over " ++ decimal limit ++ codes " bytes") ∷ [])

abbrev pub too_many_columns_line : ℕ → List ℕ
too_many_columns_line limit = line_of (codes "fault" ∷ (codes "more than " ++ decimal limit ++ codes " columns") ∷ [])

abbrev pub long_name_line : ℕ → ℕ → List ℕ
long_name_line column most = line_of (codes "fault" ∷ (codes "name of column " ++ decimal column ++ codes " longer than " ++ decimal most ++ codes " bytes") ∷ [])

abbrev pub no_column_line : List ℕ → List ℕ
no_column_line name = line_of (codes "fault" ∷ (codes "no column " ++ shown name) ∷ [])

abbrev pub other_header_line : List ℕ → List ℕ
other_header_line file = line_of (codes "fault" ∷ (codes "other header in " ++ shown file) ∷ [])

abbrev pub too_many_faults_line : ℕ → List ℕ
too_many_faults_line bound = line_of (codes "fault" ∷ (codes "over " ++ decimal bound ++ codes " faults") ∷ [])

abbrev pub mismatch_line : Mismatch → List ℕ
mismatch_line (NoColumn name names) = no_column_line name
mismatch_line (OtherHeader file names) = other_header_line file
mismatch_line (TooManyColumns limit) = too_many_columns_line limit
mismatch_line (LongName column most) = long_name_line column most
