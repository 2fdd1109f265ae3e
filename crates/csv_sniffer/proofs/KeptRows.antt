-- A row whose first fields are plain values that leave the types of their columns as they are.
use Rattle.std.proofs.Common.{◌≡◌, ℕ, ◌+◌, ◌<◌, ◌≤◌, ◌⊎◌, Bool, true, false, cond, List, length, get_or, Some, None, refl, sym, ◌∙◌, ap, subst, ◌≢◌, inl, inr, arith}
use Rattle.std.specs.Prelude.{slice_get, slice_range, option_and_then}
use Rattle.std.specs.List.{list_all}
use Rattle.std.proofs.lemmas.Bool.{cases_lt}
use Rattle.std.proofs.lemmas.Bool.Decides.{eqb_tells}
use Rattle.byte_classes.specs.Dialect.{Marks}
use Rattle.byte_classes.specs.Class.{class_of}
use Rattle.byte_classes.specs.Special.{is_special}
use Rattle.byte_classes.specs.Fault.{is_line_end_byte}
use Rattle.row_fields.specs.declared.field.Ending.TheVariants as ending
use Rattle.row_fields.specs.declared.field.FieldEnd.{FieldEnd}
use Rattle.row_fields.specs.Fields.{Field, is_quoted}
use Rattle.row_fields.specs.Plain.{LeavesPlain}
use Rattle.row_fields.specs.Reading.{ReadsField, field_of}
use Rattle.row_fields.proofs.FirstFields.{HasRest, field_before_delim, field_before_line_end, rest_behind}
use Rattle.row_fields.proofs.PlainReading.{bare_field_of, delim_stops, line_end_stops, reads_plain}
use Rattle.load_options.specs.declared.options.Options.{Options}
use Rattle.value_types.specs.declared.possible_types.PossibleTypes.{PossibleTypes}
use Rattle.csv_sniffer.specs.ColumnTypes.{is_null_field, value_unless_null}
use Rattle.value_types.specs.KeptTypes.{is_settled, is_value_byte, keeps}
use Rattle.value_types.specs.PossibleTypes.{narrowed_by}
use Rattle.csv_sniffer.specs.PossibleTypes.{column_value}
use Rattle.value_types.proofs.KeptTypes.{kept, settled}

-- ---- a value that is kept

kept_by_null : (t : Bool) (possible : PossibleTypes) (text : List ℕ) → keeps possible text ≡ true → possible ≡ narrowed_by (cond t None (Some text)) possible
kept_by_null true possible text is = refl
kept_by_null false possible text is = kept possible text is

pub kept_value : (o : Options) (d : Marks) (fs : List Field) (k at : ℕ) (raw : List ℕ) (possible : PossibleTypes) → is_quoted d raw ≡ false → slice_get fs k ≡ Some (field_of d at raw) → keeps possible raw ≡ true →
    possible ≡ narrowed_by (column_value o fs k) possible
kept_value o d fs k at raw possible bare found is =
    let field : slice_get fs k ≡ Some (record { at = at; quoted = false; value = raw }) = found ∙ ap Some (bare_field_of d at raw bare) in
    kept_by_null (is_null_field o (record { at = at; quoted = false; value = raw })) possible raw is
    ∙ sym (ap (λ f. narrowed_by (option_and_then (value_unless_null o) f) possible) field)

-- ---- one field more

module _ (d : Marks) (holds : LeavesPlain is_value_byte d) (bytes : List ℕ) (fs : List Field) (k from end : ℕ) (rest : HasRest d bytes fs k from) (low : from < end) (high : end < length bytes)
    (all : list_all is_value_byte (slice_range bytes from end) ≡ true) where
  abbrev field : FieldEnd
  field = record { at = end; ending = ending.Bare }

  abbrev raw : List ℕ
  raw = slice_range bytes from end

  reads : is_special false (class_of d (get_or bytes end 0)) ≡ true → (is_quoted d raw ≡ false) × ReadsField d bytes from field
  reads stops = reads_plain is_value_byte d holds bytes from end (omega (arith, low)) high all stops

  module _ (possible : PossibleTypes) (is : keeps possible raw ≡ true) where
    pub kept_before_delim : get_or bytes end 0 ≡ d.delim → (o : Options) → possible ≡ narrowed_by (column_value o fs k) possible
    kept_before_delim delim o =
        let read = reads (delim_stops d (get_or bytes end 0) holds.sound delim) in
        kept_value o d fs k rest.at raw possible read.0 (field_before_delim d holds.sound bytes fs k from rest field read.1 high delim) is

    pub kept_before_line_end : is_line_end_byte (get_or bytes end 0) ≡ true → (o : Options) → possible ≡ narrowed_by (column_value o fs k) possible
    kept_before_line_end ends o =
        let read = reads (line_end_stops d (get_or bytes end 0) ends) in
        kept_value o d fs k rest.at raw possible read.0 (field_before_line_end d holds.sound bytes fs k from rest field read.1 high ends) is

  pub rest_behind_delim : get_or bytes end 0 ≡ d.delim → HasRest d bytes fs (k + 1) (end + 1)
  rest_behind_delim delim =
      let read = reads (delim_stops d (get_or bytes end 0) holds.sound delim) in
      rest_behind d holds.sound bytes fs k from rest field read.1 high delim

-- ---- all columns

-- the first columns are kept by the row with these fields
abbrev KeptBelow : List Field → List PossibleTypes → ℕ → Type 0
KeptBelow fs possible count = (o : Options) (k : ℕ) (other : PossibleTypes) → k < count → get_or possible k other ≡ narrowed_by (column_value o fs k) (get_or possible k other)

pub kept_one_more : (fs : List Field) (possible : List PossibleTypes) (column : ℕ) → column < length possible → KeptBelow fs possible column →
    ((o : Options) (other : PossibleTypes) → get_or possible column other ≡ narrowed_by (column_value o fs column) (get_or possible column other)) → KeptBelow fs possible (column + 1)
kept_one_more fs possible column within before here o k other lt = elim (eqb_tells k column) [
  | inl same ↦ subst (λ n. get_or possible n other ≡ narrowed_by (column_value o fs n) (get_or possible n other)) (sym same.1) (here o other)
  | inr apart ↦ (let ne : k ≢ column = apart.1 in before o k other (omega (arith, lt, ne)))
]

-- those behind the last one that isn't settled stay as they are
pub kept_with_settled : (fs : List Field) (possible : List PossibleTypes) (column count : ℕ) → count ≤ column →
    ((k : ℕ) (other : PossibleTypes) → count ≤ k → k < length possible → is_settled (get_or possible k other) ≡ true) → KeptBelow fs possible column → KeptBelow fs possible (length possible)
kept_with_settled fs possible column count low behind before o k other lt = by_place (cases_lt k column) where
  by_place : (k < column) ⊎ (column ≤ k) → get_or possible k other ≡ narrowed_by (column_value o fs k) (get_or possible k other)
  by_place (inl first) = before o k other first
  by_place (inr later) = settled (get_or possible k other) (column_value o fs k) (behind k other (omega (arith, low, later)) lt)
