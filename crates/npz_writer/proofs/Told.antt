-- Each sheet is told: it has as many keys as types, and no key is too long.
use Rattle.std.proofs.Common.{◌≡◌, ℕ, ◌^◌, ◌<◌, ◌≤◌, Bool, true, List, [], ◌∷◌, length, map, Option, None, Some, refl, sym, ◌∙◌, arith, All}
use Rattle.std.specs.Prelude.{◌&&◌, nat_lt}
use Rattle.std.specs.List.{zip}
use Rattle.std.proofs.lemmas.Bool.Decides.{nat_tests}
use Rattle.std.proofs.lemmas.Bool.{and_parts}
use Rattle.std.proofs.lemmas.List.{length-map}
use Rattle.std.proofs.lemmas.List.Elements.{All-cons, All-nil}
use Rattle.value_types.specs.declared.types.ColumnType.{ColumnType}
use Rattle.value_types.specs.Datum.{Datum}
use Rattle.csv_sniffer.specs.declared.found.Sniffed.{Sniffed}
use Rattle.file_list.specs.declared.batch.FileBook.{FileBook}
use Rattle.npz_writer.specs.Keys.{column_keys}
use Rattle.npz_writer.specs.Labels.{label, label_columns, labels, sheet}
use Rattle.npz_writer.specs.LongKeys.{long_key}
use Rattle.npz_writer.specs.Members.{reject_sheets, sheets}
use Rattle.npz_writer.specs.RejectSheets.{error_columns, error_rows, errors, scan_columns, scan_rows, scans}
use Rattle.npz_writer.specs.Sheets.{IsTold, SheetView}
use Rattle.npz_writer.proofs.LongNames.{IsShortKey, keys_short, length-keys}

-- ---- sheets of fixed columns

are_short : List (List ℕ × ColumnType) → Bool
are_short [] = true
are_short (column ∷ columns) = nat_lt (length column.0) 65522 && are_short columns

short : (columns : List (List ℕ × ColumnType)) → are_short columns ≡ true → All IsShortKey (map (λ column. column.0) columns)
unfolding are_short
short [] all = All-nil IsShortKey
short (column ∷ columns) all =
    let both = and_parts (nat_lt (length column.0) 65522) (are_short columns) all in
    let one : length column.0 ≤ 65521 = grind (arith, nat_tests, both.0) in
    All-cons IsShortKey column.0 (map (λ c. c.0) columns) one (short columns both.1)

told-sheet : (columns : List (List ℕ × ColumnType)) (rows : List (List Datum)) → are_short columns ≡ true → IsTold (sheet columns rows)
told-sheet columns rows all = record {
  keys = length-map columns (λ column. column.0) ∙ sym (length-map columns (λ column. column.1));
  short = short columns all;
}

-- ---- all sheets

told-rejects : (s : Sniffed) (files : Option (List FileBook)) → All IsTold (reject_sheets s files)
unfolding are_short
told-rejects s None = All-nil IsTold
told-rejects s (Some files) =
    All-cons IsTold (scans s files) (errors files ∷ []) (told-sheet scan_columns (scan_rows s 0 files) refl)
    (All-cons IsTold (errors files) [] (told-sheet error_columns (error_rows files) refl) (All-nil IsTold))

pub told : (s : Sniffed) (rows : List (List Datum)) (files : Option (List FileBook)) → length s.names ≡ length s.types → long_key s ≡ None → length s.names < 2 ^ 64 → All IsTold (sheets s rows files)
unfolding are_short
told s rows files names none few =
    let keys : List (List ℕ) = column_keys s.names in
    let row_sheet : SheetView = record { keys = keys; types = s.types; rows = rows } in
    All-cons IsTold (labels keys s.types) (row_sheet ∷ reject_sheets s files) (told-sheet label_columns (map label (zip keys s.types)) refl)
    (All-cons IsTold row_sheet (reject_sheets s files) (record { keys = length-keys s.names ∙ names; short = keys_short s.names none few }) (told-rejects s files))
