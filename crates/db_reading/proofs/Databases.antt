-- The tables of a database can be stored.
use Rattle.std.proofs.Common.{◌≡◌, ℕ, suc, ◌+◌, ◌^◌, ◌<◌, true, false, ℤ, pos, List, [], ◌∷◌, length, map, refl, ap, arith, All, w64}
use Rattle.std.specs.Prelude.{FitsSigned}
use Rattle.std.proofs.lemmas.Int.{fits_signed_from_abs, ints}
use Rattle.std.proofs.lemmas.List.Elements.{All-append, All-cons, All-head, All-nil, All-tail}
use Rattle.sqlite_value.specs.Order.{Row}
use Rattle.value_types.specs.declared.types.Value.{Value}
use Rattle.value_types.specs.declared.types.Value.TheVariants as values
use Rattle.value_types.specs.Datum.{Datum, null, typed, text}
use Rattle.value_types.specs.Spelled.{IsSpelled, IsSpelledCell}
use Rattle.value_types.proofs.SpelledParts.{IsBigint, not_negative, negative, spelled_int}
use Rattle.csv_sniffer.specs.declared.found.Sniffed.{Sniffed}
use Rattle.reject_book.specs.declared.reject.Reject.{Reject}
use Rattle.file_list.specs.declared.batch.FileBook.{FileBook}
use Rattle.db_records.specs.Record.{IsWritable}
use Rattle.db_pages.specs.Image.{Tabled}
use Rattle.db_writer.specs.Database.{database, database_tables, errors_table, rows_table, scans_table}
use Rattle.db_writer.specs.Rejects.{AreCounted, reject_row, reject_rows, scan_row, scan_rows}
use Rattle.db_writer.specs.Stored.{stored_cell, stored_row, stored_value}
use Rattle.db_reading.specs.Database.{IsTableRow}
use Rattle.db_reading.specs.Tables.{HoldsTables, IsStorable}
use Rattle.db_reading.specs.Whole.{IsAllowed, IsWholeDatabase}
use Rattle.db_reading.proofs.Images.{image-holds}
use Rattle.db_reading.proofs.WholeImages.{image-whole}

bigint-fits : {n : ℤ} → IsBigint n → FitsSigned w64 n
bigint-fits (not_negative n small) = fits_signed_from_abs w64 (pos n) small
bigint-fits (negative n small) = omega (arith, ints, small)

value-writable : (value : Value) → IsSpelled value → IsWritable (stored_value value)
value-writable (values.Bool true) spelled = fits_signed_from_abs w64 (pos 1) (omega arith)
value-writable (values.Bool false) spelled = fits_signed_from_abs w64 (pos 0) (omega arith)
value-writable (values.Int n) spelled = bigint-fits (spelled_int n spelled)
value-writable (values.Date day) spelled = tt
value-writable (values.Time micros) spelled = tt
value-writable (values.Stamp stamp) spelled = tt

cell-writable : (cell : Datum) → IsSpelledCell cell → IsWritable (stored_cell cell)
cell-writable null spelled = tt
cell-writable (typed value) spelled = value-writable value spelled
cell-writable (text bytes) spelled = tt

cells-writable : (cells : List Datum) → All IsSpelledCell cells → All IsWritable (stored_row cells)
cells-writable [] spelled = All-nil IsWritable
cells-writable (cell ∷ cells) spelled =
    All-cons IsWritable (stored_cell cell) (stored_row cells) (cell-writable cell (All-head IsSpelledCell cell cells spelled)) (cells-writable cells (All-tail IsSpelledCell cell cells spelled))

length-stored : (cells : List Datum) → length (stored_row cells) ≡ length cells
length-stored [] = refl
length-stored (cell ∷ cells) = ap suc (length-stored cells)

rows-storable : (rows : List (List Datum)) → All IsTableRow rows → All IsStorable (map stored_row rows)
rows-storable [] are = All-nil IsStorable
rows-storable (cells ∷ rows) are =
    let one : IsTableRow cells = All-head IsTableRow cells rows are in
    All-cons IsStorable (stored_row cells) (map stored_row rows)
    (record { some = omega (arith, one.some, length-stored cells); few = omega (arith, one.few, length-stored cells); writable = cells-writable cells one.writable })
    (rows-storable rows (All-tail IsTableRow cells rows are))

-- rows of ten values
abbrev HasTen : Row → Type 0
HasTen row = length row ≡ 10

ten-storable : (rows : List Row) → All HasTen rows → All (All IsWritable) rows → All IsStorable rows
ten-storable [] ten writable = All-nil IsStorable
ten-storable (row ∷ rows) ten writable =
    let size : length row ≡ 10 = All-head HasTen row rows ten in
    All-cons IsStorable row rows (record { some = omega (arith, size); few = omega (arith, size); writable = All-head (All IsWritable) row rows writable })
    (ten-storable rows (All-tail HasTen row rows ten) (All-tail (All IsWritable) row rows writable))

scans-ten : (s : Sniffed) (file_id : ℕ) (files : List FileBook) → All HasTen (scan_rows s file_id files)
scans-ten s file_id [] = All-nil HasTen
scans-ten s file_id (file ∷ files) = All-cons HasTen (scan_row s file_id file.name) (scan_rows s (file_id + 1) files) refl (scans-ten s (file_id + 1) files)

stored-ten : (rejects : List Reject) → All HasTen (map reject_row rejects)
stored-ten [] = All-nil HasTen
stored-ten (reject ∷ rejects) = All-cons HasTen (reject_row reject) (map reject_row rejects) refl (stored-ten rejects)

rejects-ten : (files : List FileBook) → All HasTen (reject_rows files)
rejects-ten [] = All-nil HasTen
rejects-ten (file ∷ files) = All-append HasTen (map reject_row file.book.stored) (reject_rows files) (stored-ten file.book.stored) (rejects-ten files)

abbrev AreStorable : Tabled → Type 0
AreStorable t = All IsStorable t.rows

tables-storable : (table : List ℕ) (s : Sniffed) (rows : List (List Datum)) (files : List FileBook) → All IsTableRow rows → AreCounted s files →
    All AreStorable (database_tables table s rows files)
tables-storable table s rows files are counted =
    let first : Tabled = rows_table table s rows in
    let second : Tabled = scans_table s files in
    let third : Tabled = errors_table files in
    All-cons AreStorable first (second ∷ third ∷ []) (rows-storable rows are)
    (All-cons AreStorable second (third ∷ []) (ten-storable (scan_rows s 0 files) (scans-ten s 0 files) counted.scans)
    (All-cons AreStorable third [] (ten-storable (reject_rows files) (rejects-ten files) counted.rejects) (All-nil AreStorable)))

pub database-holds : (table : List ℕ) (s : Sniffed) (rows : List (List Datum)) (files : List FileBook) → All IsTableRow rows → AreCounted s files →
    length (database table s rows files) < 2 ^ 44 → HoldsTables (database table s rows files) (database_tables table s rows files)
unfolding database
database-holds table s rows files are counted short =
    image-holds (database_tables table s rows files) (tables-storable table s rows files are counted) (omega (arith, short))

pub database-whole : (table : List ℕ) (s : Sniffed) (rows : List (List Datum)) (files : List FileBook) → All IsTableRow rows → AreCounted s files →
    All IsAllowed (database_tables table s rows files) → length (database table s rows files) < 2 ^ 44 →
    IsWholeDatabase (database table s rows files) (database_tables table s rows files)
unfolding database
database-whole table s rows files are counted allowed short =
    image-whole (database_tables table s rows files) (tables-storable table s rows files are counted) allowed (omega (arith, short))
