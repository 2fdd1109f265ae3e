-- Records of rows, as they are read.
use Rattle.std.proofs.Common.{◌≡◌, ℕ, ◌+◌, ◌*◌, ◌^◌, ◌<◌, ◌≤◌, ℤ, pos, List, [], ◌∷◌, length, map, flat_map, refl, ◌∙◌, ap, arith, length-append, All, w64, to_z}
use Rattle.std.proofs.lemmas.Int.{to_z_pos}
use Rattle.std.proofs.lemmas.List.Elements.{All-cons, All-head, All-nil, All-tail}
use Rattle.sqlite_value.specs.Order.{Row}
use Rattle.sqlite_record.specs.Record.{decode}
use Rattle.sqlite_record.specs.Serial.{serial_of}
use Rattle.sqlite_format.specs.Cell.{flip_sign}
use Rattle.sqlite_format.proofs.CellLemmas.{flip_sign-flip_sign}
use Rattle.sqlite_btree.specs.Chain.{Entry}
use Rattle.sqlite_btree.specs.Stored.{rowid_of}
use Rattle.db_records.specs.Record.{header_size, record_bytes, type_bytes}
use Rattle.db_records.proofs.Records.{record-reads-back, record-size}
use Rattle.db_records.proofs.Varints.{varint-size}
use Rattle.db_pages.proofs.Sizes.{varint-short}
use Rattle.db_reading.specs.Entries.{row_entries, row_entry}
use Rattle.db_reading.specs.Tables.{IsStorable, numbered}

pub types-most : (row : Row) → length (flat_map type_bytes row) ≤ 8 * length row
types-most [] = omega arith
types-most (value ∷ row) = omega (arith, length-append (type_bytes value) (flat_map type_bytes row), varint-short (serial_of value), types-most row)

types-some : (row : Row) → 0 < length row → 0 < length (flat_map type_bytes row)
types-some [] some = absurd (let no : ⊥ = omega (arith, some) in no)
types-some (value ∷ row) some = omega (arith, length-append (type_bytes value) (flat_map type_bytes row), varint-size (serial_of value))

pub record-some : (row : Row) → IsStorable row → 1 < length (record_bytes row)
record-some row storable = omega (arith, record-size row, varint-size (header_size (length (flat_map type_bytes row))), types-some row storable.some)

record-decoded : (row : Row) → IsStorable row → length (record_bytes row) < 2 ^ 54 → decode (record_bytes row) ≡ row
record-decoded row storable short =
    record-reads-back row storable.writable (omega (arith, types-most row, storable.few)) short

pub rowid-is : (rowid : ℕ) → rowid < 2 ^ 63 → rowid_of (flip_sign rowid) ≡ pos rowid
rowid-is rowid small =
    ap (λ n. to_z w64 n) (flip_sign-flip_sign rowid (omega (arith, small))) ∙ to_z_pos w64 rowid small

pub rows-decoded : (rowid : ℕ) (rows : List Row) → All IsStorable rows → rowid + length rows < 2 ^ 63 →
    All (λ (entry : Entry). length entry.payload < 2 ^ 54) (row_entries rowid (map record_bytes rows)) →
    map (λ (entry : Entry). (rowid_of entry.key, decode entry.payload)) (row_entries rowid (map record_bytes rows)) ≡ numbered rowid rows
rows-decoded rowid [] storable few short = refl
rows-decoded rowid (row ∷ rows) storable few short =
    let IsShort : Entry → Type 0 = λ (entry : Entry). length entry.payload < 2 ^ 54 in
    let others : List Entry = row_entries (rowid + 1) (map record_bytes rows) in
    let read : Entry → ℤ × Row = λ (entry : Entry). (rowid_of entry.key, decode entry.payload) in
    ap (λ n. (n, decode (record_bytes row)) ∷ map read others) (rowid-is rowid (omega (arith, few)))
    ∙ ap (λ r. (pos rowid, r) ∷ map read others)
    (record-decoded row (All-head IsStorable row rows storable) (All-head IsShort (row_entry rowid (record_bytes row)) others short))
    ∙ ap (λ rs. (pos rowid, row) ∷ rs)
    (rows-decoded (rowid + 1) rows (All-tail IsStorable row rows storable) (omega (arith, few)) (All-tail IsShort (row_entry rowid (record_bytes row)) others short))

pub records-some : (rows : List Row) → All IsStorable rows → All (λ bytes. 1 < length bytes) (map record_bytes rows)
records-some [] storable = All-nil (λ bytes. 1 < length bytes)
records-some (row ∷ rows) storable =
    All-cons (λ bytes. 1 < length bytes) (record_bytes row) (map record_bytes rows) (record-some row (All-head IsStorable row rows storable))
    (records-some rows (All-tail IsStorable row rows storable))

pub length-records : (rows : List Row) → length (map record_bytes rows) ≡ length rows
length-records [] = refl
length-records (row ∷ rows) = omega (arith, length-records rows)
