-- A written row is good, with the cells that were written.
use Rattle.std.proofs.Common.{◌≡◌, ℕ, ◌+◌, ◌≤◌, true, false, cond, ◌&&◌, not, List, [], ◌∷◌, map, length, refl, sym, ◌∙◌, ap, arith, None, length-append}
use Rattle.std.specs.Prelude.{All, nat_le, option_map}
use Rattle.std.specs.List.{join_with_byte}
use Rattle.std.specs.Option.{option_or}
use Rattle.std.specs.Str.{is_utf8}
use Rattle.std.proofs.lemmas.Bool.{and_parts, cond-false, cond-true, le-ltb}
use Rattle.std.proofs.lemmas.List.{length-map}
use Rattle.std.proofs.lemmas.List.Elements.{All-head, All-tail}
use Rattle.std.proofs.lemmas.Str.{is_utf8-from_IsUtf8}
use Rattle.byte_classes.specs.Dialect.{IsDialect}
use Rattle.row_fields.specs.Fields.{fields, flaw}
use Rattle.row_fields.specs.Laws.{read_field, read_row}
use Rattle.row_fields.specs.Written.{WrittenField, row_text, IsWrittenRow}
use Rattle.row_fields.proofs.RowReading.{read_row-text, flaw-none}
use Rattle.row_fields.proofs.TextReading.{written_row_read}
use Rattle.value_types.specs.declared.types.ColumnType.{ColumnType}
use Rattle.value_types.specs.Datum.{Datum}
use Rattle.value_types.specs.OfType.{fit_all}
use Rattle.reject_book.specs.declared.reject.RowPlace.{RowPlace}
use Rattle.reject_book.specs.declared.reject.Schema.{Schema}
use Rattle.reject_book.specs.Fault.{line_size_fault, unquoted_fault, unicode_fault, missing_fault, too_many_fault, row_fault, cast_faults}
use Rattle.reject_book.specs.Judging.{is_blank, cells_of_fields, good_unless, faulty_or, verdict_of}
use Rattle.reject_book.specs.Verdict.{Blank, Good}
use Rattle.csv_writer.specs.Writable.{IsReadableCell}
use Rattle.csv_writer.specs.WrittenTable.{cell_field, row_line}
use Rattle.csv_writer.proofs.TextFields.{row_utf8}
use Rattle.table_laws.specs.Laws.{csv_marks, cell_to_write}
use Rattle.table_laws.proofs.WrittenCells.{ReadsNulls, cells_read, no_cast_fault}
use Rattle.value_types.proofs.RowFits.{fit_lengths}
use Rattle.table_laws.proofs.WrittenTables.{cells_text, cells_writable}

pub csv_dialect : IsDialect csv_marks
csv_dialect = record {
  delim = (omega arith, λ e. omega (arith, e), λ e. omega (arith, e));
  quote = ((omega arith, λ e. omega (arith, e), λ e. omega (arith, e)), λ e. omega (arith, e));
  escape = ((omega arith, λ e. omega (arith, e), λ e. omega (arith, e)), λ e. omega (arith, e), refl);
  comment = tt;
}

-- the schema that a written table is read under
pub record ReadsTable (schema : Schema) (tys : List ColumnType) : Type 0 where
  pub types : schema.types ≡ tys
  pub nulls : ReadsNulls schema

-- a row that was written
pub record IsWrittenBack (schema : Schema) (tys : List ColumnType) (cells : List Datum) : Type 0 where
  pub fit : fit_all tys cells ≡ true
  pub readable : All IsReadableCell cells
  pub short : length (row_line cells) ≤ schema.max_line_size + 1

-- the fields of a written row are the written ones, without a flaw
pub read_back : (row : List WrittenField) → IsWrittenRow csv_marks row → read_row csv_marks (row_text csv_marks row) ≡ row
read_back [] w = absurd w
read_back (f ∷ fs) w = read_row-text csv_marks csv_dialect f fs w.1 w.0

-- a line of several fields has a comma
joined_some : (first next : List ℕ) (rest : List (List ℕ)) (schema : Schema) → is_blank schema (join_with_byte 44 (first ∷ (next ∷ rest))) ≡ false
joined_some [] next rest schema = refl
joined_some (b ∷ first) next rest schema = refl

one_type : (schema : Schema) (row : List ℕ) (ty : ColumnType) → schema.types ≡ ty ∷ [] → is_blank schema row ≡ false
one_type schema [] ty is = ap (λ tys. nat_le 2 (length tys)) is
one_type schema (b ∷ row) ty is = refl

not_blank : (schema : Schema) (tys : List ColumnType) (cells : List Datum) → schema.types ≡ tys → 1 ≤ length tys → fit_all tys cells ≡ true → is_blank schema (row_text csv_marks (map cell_to_write cells)) ≡ false
not_blank schema [] cells is some fit = absurd (let no : ⊥ = omega (arith, some) in no)
not_blank schema (ty ∷ tys) [] is some fit = absurd (let no : ⊥ = cc in no)
not_blank schema (ty ∷ []) (cell ∷ cells) is some fit = one_type schema (row_text csv_marks (map cell_to_write (cell ∷ cells))) ty is
not_blank schema (ty ∷ (other ∷ tys)) (cell ∷ []) is some fit = absurd (let no : false ≡ true = (and_parts _ _ fit).1 in let none : ⊥ = cc in none)
not_blank schema (ty ∷ (other ∷ tys)) (cell ∷ (next ∷ cells)) is some fit =
    ap (is_blank schema) (cells_text (cell ∷ (next ∷ cells))) ∙ joined_some (cell_field cell) (cell_field next) (map cell_field cells) schema

module _ (schema : Schema) (tys : List ColumnType) (cells : List Datum) (some : 1 ≤ length tys) (reads : ReadsTable schema tys) (w : IsWrittenBack schema tys cells) where
  row : List ℕ
  row = row_text csv_marks (map cell_to_write cells)

  abbrev written : List WrittenField
  written = map cell_to_write cells

  writable : IsWrittenRow csv_marks written
  writable = cells_writable tys cells some w.fit

  no_flaw : flaw csv_marks (row_text csv_marks written) ≡ None
  no_flaw = flaw-none csv_marks (row_text csv_marks written) (written_row_read csv_marks csv_dialect written writable)

  read : map read_field (fields csv_marks (row_text csv_marks written)) ≡ written
  read = read_back written writable

  count : length (fields csv_marks (row_text csv_marks written)) ≡ length schema.types
  count = sym (length-map (fields csv_marks (row_text csv_marks written)) read_field) ∙ ap length read ∙ length-map cells cell_to_write ∙ fit_lengths tys cells w.fit ∙ ap length (sym reads.types)

  text : is_utf8 (row_text csv_marks written) ≡ true
  text = ap is_utf8 (cells_text cells) ∙ is_utf8-from_IsUtf8 (join_with_byte 44 (map cell_field cells)) (row_utf8 cells w.readable)

  short : length (row_text csv_marks written) ≤ schema.max_line_size
  short = omega (arith, ap length (cells_text cells), length-append (join_with_byte 44 (map cell_field cells)) (10 ∷ []), w.short)

  module _ (place : RowPlace) where
    no_line_size : line_size_fault csv_marks schema place (row_text csv_marks written) ≡ None
    no_line_size = cond-false _ _ _ (le-ltb schema.max_line_size (length (row_text csv_marks written)) short)

    no_unquoted : unquoted_fault csv_marks schema place (row_text csv_marks written) ≡ None
    no_unquoted = ap (option_map _) no_flaw

    no_unicode : unicode_fault csv_marks schema place (row_text csv_marks written) ≡ None
    no_unicode = cond-true _ _ _ text

    no_missing : missing_fault csv_marks schema place (row_text csv_marks written) ≡ None
    no_missing = cond-false _ _ _ (ap (λ t. t && not schema.null_padding) (le-ltb (length (fields csv_marks (row_text csv_marks written))) (length schema.types) (omega (arith, count))))

    no_more : too_many_fault csv_marks schema place (row_text csv_marks written) ≡ None
    no_more = cond-false _ _ _ (le-ltb (length schema.types) (length (fields csv_marks (row_text csv_marks written))) (omega (arith, count)))

    no_fault : row_fault csv_marks schema place (row_text csv_marks written) ≡ None
    no_fault = λ i. option_or (no_line_size i) (option_or (no_unquoted i) (option_or (no_unicode i) (option_or (no_missing i) (no_more i))))

    cells_are : cells_of_fields schema schema.types (fields csv_marks (row_text csv_marks written)) ≡ cells
    cells_are =
        ap (λ ts. cells_of_fields schema ts (fields csv_marks (row_text csv_marks written))) reads.types
        ∙ cells_read schema reads.nulls tys cells (fields csv_marks (row_text csv_marks written)) w.fit w.readable read

    no_casts : cast_faults csv_marks schema place (row_text csv_marks written) 1 schema.types (fields csv_marks (row_text csv_marks written)) ≡ []
    no_casts =
        ap (λ ts. cast_faults csv_marks schema place (row_text csv_marks written) 1 ts (fields csv_marks (row_text csv_marks written))) reads.types
        ∙ no_cast_fault schema reads.nulls csv_marks place (row_text csv_marks written) 1 tys cells (fields csv_marks (row_text csv_marks written)) w.fit w.readable read

    pub row_good : verdict_of csv_marks schema place (row_text csv_marks written) ≡ Good cells
    row_good = λ i. cond (not_blank schema tys cells reads.types some w.fit i) Blank (faulty_or (good_unless (cells_are i) (no_casts i)) (no_fault i))

-- ---- all rows

abbrev GoodRow : Schema → List ℕ → List Datum → Type 0
GoodRow schema bytes cells = (place : RowPlace) → verdict_of csv_marks schema place bytes ≡ Good cells

-- the verdicts of rows, each of which is good
pub data AreGood (schema : Schema) : List (List ℕ) → List (List Datum) → Type 0 where
  none : AreGood schema [] []
  more : (bytes : List ℕ) (cells : List Datum) (texts : List (List ℕ)) (rows : List (List Datum)) → GoodRow schema bytes cells → AreGood schema texts rows → AreGood schema (bytes ∷ texts) (cells ∷ rows)

pub rows_good : (schema : Schema) (tys : List ColumnType) (rows : List (List Datum)) → 1 ≤ length tys → ReadsTable schema tys → All (IsWrittenBack schema tys) rows →
    AreGood schema (map (row_text csv_marks) (map (map cell_to_write) rows)) rows
rows_good schema tys [] some reads w = none
rows_good schema tys (cells ∷ rows) some reads w =
    more (row_text csv_marks (map cell_to_write cells)) cells (map (row_text csv_marks) (map (map cell_to_write) rows)) rows
    (row_good schema tys cells some reads (All-head (IsWrittenBack schema tys) cells rows w))
    (rows_good schema tys rows some reads (All-tail (IsWrittenBack schema tys) cells rows w))

-- the verdicts of rows at their places
pub verdicts_good : (schema : Schema) (place : ℕ → RowPlace) (bytes : ℕ → List ℕ) (places : List ℕ) (texts : List (List ℕ)) (rows : List (List Datum)) → map bytes places ≡ texts → AreGood schema texts rows →
    map (λ p. verdict_of csv_marks schema (place p) (bytes p)) places ≡ map Good rows
verdicts_good schema place bytes [] texts rows is none = refl
verdicts_good schema place bytes (p ∷ places) texts rows is none = absurd (let no : ⊥ = cc in no)
verdicts_good schema place bytes [] texts rows is (more first cells others rest good goods) = absurd (let no : ⊥ = cc in no)
verdicts_good schema place bytes (p ∷ places) texts rows is (more first cells others rest good goods) =
    let here : bytes p ≡ first = cc in
    let later : map bytes places ≡ others = cc in
    λ i. (ap (verdict_of csv_marks schema (place p)) here ∙ good (place p)) i ∷ verdicts_good schema place bytes places others rest later goods i
