-- The sheets of scans and rejects (the columns are those of DuckDB's manual, "Reading Faulty CSV Files", `reject_scans` and `reject_errors`).
use Rattle.std.specs.Prelude.{ℕ, ◌+◌, pos, List, [], ◌∷◌, codes, length, map, flat_map}
use Rattle.std.specs.Option.{option_to_list}
use Rattle.value_types.specs.declared.types.ColumnType.{ColumnType}
use Rattle.value_types.specs.declared.types.ColumnType.TheVariants.{Bigint, Varchar}
use Rattle.value_types.specs.declared.types.Value.TheVariants as values
use Rattle.value_types.specs.Datum as cells
use Rattle.value_types.specs.ValueText.{truth_text}
use Rattle.csv_sniffer.specs.declared.found.Sniffed.{Sniffed}
use Rattle.reject_book.specs.declared.reject.Reject.{Reject}
use Rattle.reject_book.specs.Fields.{Field, number, text, bytes, fields_of}
use Rattle.file_list.specs.declared.batch.FileBook.{FileBook}
use Rattle.db_writer.specs.Rejects.{newline_bytes}
use Rattle.npz_writer.specs.Labels.{sheet}
use Rattle.npz_writer.specs.Sheets.{SheetView}

-- a number, or bytes as they are
abbrev pub field_cell : Field → cells.Datum
field_cell (number n) = cells.typed (values.Int (pos n))
field_cell (text t) = cells.text t
field_cell (bytes b) = cells.text b

abbrev pub cells_of : List Field → List cells.Datum
cells_of fields = map field_cell fields

-- ---- scans

abbrev pub scan_columns : List (List ℕ × ColumnType)
scan_columns =
    (codes "reject_scans/scan_id", Bigint)
    ∷ (codes "reject_scans/file_id", Bigint)
    ∷ (codes "reject_scans/file_path", Varchar)
    ∷ (codes "reject_scans/delimiter", Varchar)
    ∷ (codes "reject_scans/quote", Varchar)
    ∷ (codes "reject_scans/escape", Varchar)
    ∷ (codes "reject_scans/newline_delimiter", Varchar)
    ∷ (codes "reject_scans/skip_rows", Bigint)
    ∷ (codes "reject_scans/has_header", Varchar)
    ∷ (codes "reject_scans/columns", Bigint)
    ∷ []

-- of the file of a number; an absent quote or escape is the empty text
abbrev pub scan_fields : Sniffed → ℕ → List ℕ → List Field
scan_fields s file_id file =
    number 0
    ∷ number file_id
    ∷ bytes file
    ∷ text (s.dialect.delim ∷ [])
    ∷ text (option_to_list s.dialect.quote)
    ∷ text (option_to_list s.dialect.escape)
    ∷ text (newline_bytes s.newline)
    ∷ number s.skip
    ∷ text (truth_text s.header)
    ∷ number (length s.types)
    ∷ []

abbrev pub scan_cells : Sniffed → ℕ → List ℕ → List cells.Datum
scan_cells s file_id file = cells_of (scan_fields s file_id file)

-- of files from a number on
abbrev pub scan_rows : Sniffed → ℕ → List FileBook → List (List cells.Datum)
scan_rows s file_id [] = []
scan_rows s file_id (file ∷ files) = scan_cells s file_id file.name ∷ scan_rows s (file_id + 1) files

abbrev pub scans : Sniffed → List FileBook → SheetView
scans s files = sheet scan_columns (scan_rows s 0 files)

-- ---- rejects

abbrev pub error_columns : List (List ℕ × ColumnType)
error_columns =
    (codes "reject_errors/scan_id", Bigint)
    ∷ (codes "reject_errors/file_id", Bigint)
    ∷ (codes "reject_errors/line", Bigint)
    ∷ (codes "reject_errors/line_byte_position", Bigint)
    ∷ (codes "reject_errors/byte_position", Bigint)
    ∷ (codes "reject_errors/column_idx", Bigint)
    ∷ (codes "reject_errors/column_name", Varchar)
    ∷ (codes "reject_errors/error_type", Varchar)
    ∷ (codes "reject_errors/csv_line", Varchar)
    ∷ (codes "reject_errors/error_message", Varchar)
    ∷ []

abbrev pub reject_cells : Reject → List cells.Datum
reject_cells reject = cells_of (fields_of reject)

-- the stored rejects of files
abbrev pub error_rows : List FileBook → List (List cells.Datum)
error_rows files = flat_map (λ file. map reject_cells file.book.stored) files

abbrev pub errors : List FileBook → SheetView
errors files = sheet error_columns (error_rows files)
