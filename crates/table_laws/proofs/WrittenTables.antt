-- A written table is a text of the grammar.
use Rattle.std.proofs.Common.{◌≡◌, ◌≢◌, ℕ, ◌≤◌, Bool, true, false, cond, ◌||◌, ◌&&◌, not, List, [], ◌∷◌, ◌++◌, map, length, refl, sym, ◌∙◌, ap, subst, arith, append-nil}
use Rattle.std.specs.Prelude.{All, flat_map, ◌==◌}
use Rattle.std.specs.List.{AllByRecursion, join_with_byte, list_any}
use Rattle.std.proofs.lemmas.Bool.{eq-eqb, eqb-true, or_parts}
use Rattle.std.proofs.lemmas.List.Elements.{All-head, All-tail}
use Rattle.std.proofs.Math.Bool.{and-false}
use Rattle.row_fields.specs.Written as grammar
use Rattle.row_fields.specs.Written.{WrittenField, field_text, row_text, ended_row_text, text_of, lf, IsBareByte, IsWritable, begins_with_comment, IsWrittenRow, IsWritten}
use Rattle.value_types.specs.declared.types.ColumnType.{ColumnType}
use Rattle.value_types.specs.Datum.{Datum, null, typed, text}
use Rattle.value_types.specs.OfType.{fit_all}
use Rattle.value_types.specs.ValueText.{value_text}
use Rattle.value_types.proofs.RowFits.{fit_lengths}
use Rattle.csv_writer.specs.Quoting.{wants_quotes, needs_quotes, doubled}
use Rattle.csv_writer.specs.WrittenTable.{text_field, cell_field, row_lines, written_table}
use Rattle.csv_writer.proofs.PlainValues.{IsPlain, value_plain}
use Rattle.table_laws.specs.Laws.{csv_marks, text_to_write, cell_to_write, table_to_write, HasColumns}

-- ---- the texts

doubled-same : (bytes : List ℕ) → doubled bytes ≡ grammar.doubled 34 bytes
doubled-same [] = refl
doubled-same (b ∷ bytes) = by_test (b == 34) refl (doubled-same bytes) where
  by_test : (t : Bool) → (b == 34) ≡ t → doubled bytes ≡ grammar.doubled 34 bytes →
      cond t (b ∷ b ∷ []) (b ∷ []) ++ doubled bytes ≡ cond t (34 ∷ 34 ∷ []) (b ∷ []) ++ grammar.doubled 34 bytes
  by_test true is rest = λ i. eqb-true b 34 is i ∷ eqb-true b 34 is i ∷ rest i
  by_test false is rest = ap (λ bs. b ∷ bs) rest

text_field-same : (bytes : List ℕ) → field_text csv_marks (text_to_write bytes) ≡ text_field bytes
text_field-same bytes = ap (λ ds. cond (needs_quotes bytes) (34 ∷ ds ++ 34 ∷ []) bytes) (sym (doubled-same bytes))

cell_field-same : (cell : Datum) → field_text csv_marks (cell_to_write cell) ≡ cell_field cell
cell_field-same null = refl
cell_field-same (typed value) = refl
cell_field-same (text bytes) = text_field-same bytes

each_field : {X : Type 0} (write : X → WrittenField) (field : X → List ℕ) → ((x : X) → field_text csv_marks (write x) ≡ field x) → (xs : List X) →
    map (field_text csv_marks) (map write xs) ≡ map field xs
each_field write field same [] = refl
each_field write field same (x ∷ xs) = λ i. same x i ∷ each_field write field same xs i

pub names_text : (names : List (List ℕ)) → row_text csv_marks (map text_to_write names) ≡ join_with_byte 44 (map text_field names)
names_text names = ap (join_with_byte 44) (each_field text_to_write text_field text_field-same names)

pub cells_text : (cells : List Datum) → row_text csv_marks (map cell_to_write cells) ≡ join_with_byte 44 (map cell_field cells)
cells_text cells = ap (join_with_byte 44) (each_field cell_to_write cell_field cell_field-same cells)

pub rows_text : (rows : List (List Datum)) → flat_map (ended_row_text csv_marks lf) (map (map cell_to_write) rows) ≡ row_lines rows
rows_text [] = refl
rows_text (cells ∷ rows) = λ i. (cells_text cells i ++ 10 ∷ []) ++ rows_text rows i

pub table_text : (names : List (List ℕ)) (rows : List (List Datum)) → text_of csv_marks (table_to_write names rows) ≡ written_table names rows
table_text names rows =
    append-nil (flat_map (ended_row_text csv_marks lf) (map text_to_write names ∷ map (map cell_to_write) rows))
    ∙ (λ i. (names_text names i ++ 10 ∷ []) ++ rows_text rows i)

-- ---- what may be written

other_byte : (b c : ℕ) → (b == c) ≡ false → b ≢ c
other_byte b c h e = let same : (b == c) ≡ true = eq-eqb b c e in absurd (let no : ⊥ = cc in no)

bare_byte : (b : ℕ) → wants_quotes b ≡ false → IsBareByte csv_marks b
bare_byte b h =
    let three = or_parts ((b == 44 || b == 34) || b == 10) (b == 13) h in
    let two = or_parts (b == 44 || b == 34) (b == 10) three.0 in
    let one = or_parts (b == 44) (b == 34) two.0 in
    record { delim = other_byte b 44 one.0; quote = other_byte b 34 one.1; lf = other_byte b 10 two.1; cr = other_byte b 13 three.1 }

bare_text : (bytes : List ℕ) → list_any wants_quotes bytes ≡ false → AllByRecursion (IsBareByte csv_marks) bytes
bare_text [] h = tt
bare_text (b ∷ bytes) h = let both = or_parts (wants_quotes b) (list_any wants_quotes bytes) h in (bare_byte b both.0, bare_text bytes both.1)

plain_text : (bytes : List ℕ) → IsPlain bytes → AllByRecursion (IsBareByte csv_marks) bytes
plain_text [] h = tt
plain_text (b ∷ bytes) h = (bare_byte b h.0.bare, plain_text bytes h.1)

text_writable : (bytes : List ℕ) → IsWritable csv_marks (needs_quotes bytes) bytes
text_writable bytes = by_test (needs_quotes bytes) refl where
  by_test : (t : Bool) → needs_quotes bytes ≡ t → IsWritable csv_marks t bytes
  by_test true is = (34, refl, refl)
  by_test false is = bare_text bytes (or_parts _ (list_any wants_quotes bytes) is).1

cell_writable : (cell : Datum) → IsWritable csv_marks (cell_to_write cell).quoted (cell_to_write cell).value
cell_writable null = tt
cell_writable (typed value) = plain_text (value_text value) (value_plain value)
cell_writable (text bytes) = text_writable bytes

all_writable : {X : Type 0} (write : X → WrittenField) → ((x : X) → IsWritable csv_marks (write x).quoted (write x).value) → (xs : List X) →
    AllByRecursion (λ (g : WrittenField). IsWritable csv_marks g.quoted g.value) (map write xs)
all_writable write each [] = tt
all_writable write each (x ∷ xs) = (each x, all_writable write each xs)

begins_no_comment : (bytes : List ℕ) → begins_with_comment csv_marks bytes ≡ false
begins_no_comment [] = refl
begins_no_comment (b ∷ bytes) = refl

row_writable : {X : Type 0} (write : X → WrittenField) → ((x : X) → IsWritable csv_marks (write x).quoted (write x).value) → (xs : List X) → 1 ≤ length xs →
    IsWrittenRow csv_marks (map write xs)
row_writable write each [] some = absurd (let no : ⊥ = omega (arith, some) in no)
row_writable write each (x ∷ xs) some =
    (all_writable write each (x ∷ xs), ap (λ t. not (write x).quoted && t) (begins_no_comment (write x).value) ∙ and-false (not (write x).quoted))

pub names_writable : (names : List (List ℕ)) → 1 ≤ length names → IsWrittenRow csv_marks (map text_to_write names)
names_writable names some = row_writable text_to_write text_writable names some

pub cells_writable : (types : List ColumnType) (cells : List Datum) → 1 ≤ length types → fit_all types cells ≡ true → IsWrittenRow csv_marks (map cell_to_write cells)
cells_writable types cells some fit = row_writable cell_to_write cell_writable cells (omega (arith, fit_lengths types cells fit, some))

pub rows_writable : (types : List ColumnType) (rows : List (List Datum)) → 1 ≤ length types → All (λ cells. fit_all types cells ≡ true) rows →
    AllByRecursion (IsWrittenRow csv_marks) (map (map cell_to_write) rows)
rows_writable types [] some fit = tt
rows_writable types (cells ∷ rows) some fit =
    let Fits : List Datum → Type 0 = λ cs. fit_all types cs ≡ true in
    (cells_writable types cells some (All-head Fits cells rows fit), rows_writable types rows some (All-tail Fits cells rows fit))

pub table_written : (names : List (List ℕ)) (types : List ColumnType) (rows : List (List Datum)) → HasColumns names types rows → IsWritten csv_marks (table_to_write names rows)
table_written names types rows h = record {
  rows =
      subst (AllByRecursion (IsWrittenRow csv_marks)) (sym (append-nil (map text_to_write names ∷ map (map cell_to_write) rows)))
      (names_writable names (omega (arith, h.names, h.some)), rows_writable types rows h.some h.rows);
  last = tt;
}
