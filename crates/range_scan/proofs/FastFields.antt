-- A row whose fields are found one behind another.
use Rattle.std.proofs.Common.{◌≡◌, ℕ, ◌+◌, ◌<◌, ◌≤◌, true, false, List, [], ◌∷◌, ◌++◌, map, take, drop, length, get_or, refl, sym, ◌∙◌, ap, subst, inl, inr, ◌⊎◌, arith, length-append}
use Rattle.std.specs.Prelude.{◌≢◌, Some, None, option_map, slice_get, slice_range}
use Rattle.std.proofs.lemmas.Bool.{cases_lt}
use Rattle.std.proofs.lemmas.List.{drop_more, map_push, length-map, take_at, append_assoc}
use Rattle.std.proofs.lemmas.List.Folds.{drop_split}
use Rattle.std.proofs.lemmas.Option.{get_or_from_slice_get, none-some, same_Some, slice_get_within}
use Rattle.byte_classes.specs.Dialect.{IsDialect, Marks}
use Rattle.byte_classes.specs.Fault.{is_line_end_byte}
use Rattle.quote_automaton.specs.declared.state.State.TheVariants.{RowStart, FieldStart}
use Rattle.quote_automaton.specs.Automaton.{state_after}
use Rattle.quote_automaton.specs.Rows.{begins_comment, row_at, row_end}
use Rattle.row_fields.specs.declared.field.FieldEnd.{FieldEnd}
use Rattle.row_fields.specs.Fields.{Field, raw_fields, fields_from, fields, flaw}
use Rattle.row_fields.specs.Reading.{HasRead, field_of, rest_at}
use Rattle.row_fields.specs.Split.{field_in, row_from}
use Rattle.row_fields.proofs.Places.{Placed, placed}
use Rattle.row_fields.proofs.FrontReading.{IsLast, has_read_more, has_read_none, is_row_len, is_split}
use Rattle.row_fields.proofs.PlainReading.{line_end_is_no_delim, no_delim_class}
use Rattle.row_fields.proofs.RowSteps.{row_at-start, begins-row_at, raw_fields-start, row_at-ended, raw_fields-last, other_ends_row}
use Rattle.value_types.specs.declared.types.ColumnType.{ColumnType}
use Rattle.value_types.specs.declared.types.ColumnType.TheVariants.{Varchar}
use Rattle.value_types.specs.Datum.{Datum}
use Rattle.column_store.specs.RowsOfColumns.{HasNoTexts}
use Rattle.reject_book.specs.declared.reject.Schema.{Schema}
use Rattle.reject_book.specs.Casting.{cell_at}
use Rattle.range_scan.specs.declared.context.Context.{Context}
use Rattle.range_scan.specs.FastRows.{cells_in, HasFields, IsFastRow, IsField}

-- ---- the cells of fields

cells_push : (schema : Schema) (tys : List ColumnType) (fs : List Field) (f : Field) (ty : ColumnType) → slice_get tys (length fs) ≡ Some ty →
    cells_in schema tys (fs ++ f ∷ []) ≡ cells_in schema tys fs ++ cell_at schema ty (Some f) ∷ []
cells_push schema [] fs f ty is = absurd (none-some ty is)
cells_push schema (t ∷ tys) [] f ty is = ap (λ u. cell_at schema u (Some f) ∷ cells_in schema tys []) (same_Some t ty is) ∙ ap (λ os. cell_at schema ty (Some f) ∷ os) (no_fields tys) where
  no_fields : (tys : List ColumnType) → cells_in schema tys [] ≡ []
  no_fields [] = refl
  no_fields (t ∷ tys) = refl
cells_push schema (t ∷ tys) (g ∷ fs) f ty is = ap (λ os. cell_at schema t (Some g) ∷ os) (cells_push schema tys fs f ty is)

no_cells : (schema : Schema) (tys : List ColumnType) → cells_in schema tys [] ≡ []
no_cells schema [] = refl
no_cells schema (ty ∷ tys) = refl

-- ---- the row so far

pub has_no_field : (context : Context) (bytes : List ℕ) → HasFields context bytes 0 []
has_no_field context bytes = record {
  spans = [];
  texts = [];
  read = has_read_none context.dialect bytes;
  count = refl;
  are = no_cells context.schema context.schema.types;
  ascii = λ none k lt. absurd (let n : ⊥ = omega (arith, lt) in n);
}

-- a column of a type, where none holds texts
no_text : (tys : List ColumnType) (k : ℕ) (ty : ColumnType) → slice_get tys k ≡ Some ty → HasNoTexts tys → ty ≢ Varchar
no_text tys k ty is none = subst (λ t. t ≢ Varchar) (get_or_from_slice_get tys k ty ty is) (none k ty (slice_get_within tys k ty is))

module _ (context : Context) (sound : IsDialect context.dialect) (bytes : List ℕ) (from : ℕ) (cells : List Datum) (so : HasFields context bytes from cells) (ty : ColumnType)
    (next : slice_get context.schema.types (length cells) ≡ Some ty) (end : ℕ) (cell : Datum) (is : IsField context ty bytes from end cell)
    (high : end < length bytes) (plain : ty ≢ Varchar → (k : ℕ) → from ≤ k → k < end → get_or bytes k 0 < 128) where
  abbrev d : Marks
  d = context.dialect

  abbrev field : FieldEnd
  field = record { at = end; ending = is.well.ending }

  abbrev raw : List ℕ
  raw = slice_range bytes from end

  abbrev before : List Field
  before = map (field_in bytes so.texts) so.spans

  abbrev with_cell : List Datum
  with_cell = cells ++ cell ∷ []

  place : Placed d bytes from end so.texts
  place = placed d bytes from end so.texts is.well

  before_long : length before ≡ length cells
  before_long = length-map so.spans (field_in bytes so.texts) ∙ so.count

  ascii_more : HasNoTexts context.schema.types → (k : ℕ) → k < end → get_or bytes k 0 < 128
  ascii_more none k lt = by_place (cases_lt k from) where
    by_place : (k < from) ⊎ (from ≤ k) → get_or bytes k 0 < 128
    by_place (inl before) = so.ascii none k before
    by_place (inr behind) = plain (no_text context.schema.types (length cells) ty next none) k behind lt

  are_more : cells_in context.schema context.schema.types (before ++ field_of d from raw ∷ []) ≡ map Some with_cell
  are_more =
      cells_push context.schema context.schema.types before (field_of d from raw) ty (ap (slice_get context.schema.types) before_long ∙ next)
      ∙ (λ i. so.are i ++ is.casts i ∷ []) ∙ sym (map_push Some cells cell)

  counted : length (before ++ field_of d from raw ∷ []) ≡ length with_cell
  counted = length-append before (field_of d from raw ∷ []) ∙ ap (λ n. n + 1) before_long ∙ sym (length-append cells (cell ∷ []))

  -- a delimiter follows
  module _ (delim : get_or bytes end 0 ≡ d.delim) where
    read_more : HasRead d bytes (end + 1) (so.spans ++ place.span ∷ []) place.new
    read_more = has_read_more d bytes from field so.spans so.texts place.new place.span so.read is.well.reads place.is sound high delim

    -- the fields before are what they were: both are the first ones of the row
    same_before : map (field_in bytes place.new) so.spans ≡ before
    same_before =
        let n : ℕ = length so.spans in
        let new : List Field = map (field_in bytes place.new) so.spans in
        let rest : List Field = fields_from d (end + 1) (raw_fields d FieldStart (rest_at d bytes (end + 1))) in
        sym (take_at new (field_in bytes place.new place.span ∷ rest) n (length-map so.spans (field_in bytes place.new)))
        ∙ ap (take n) (sym (append_assoc new (field_in bytes place.new place.span ∷ []) rest) ∙ ap (λ fs. fs ++ rest) (sym (map_push (field_in bytes place.new) so.spans place.span)) ∙ read_more.fields ∙ sym so.read.fields)
        ∙ take_at before (fields_from d from (raw_fields d FieldStart (rest_at d bytes from))) n (length-map so.spans (field_in bytes so.texts))

    fields_with : map (field_in bytes place.new) (so.spans ++ place.span ∷ []) ≡ before ++ field_of d from raw ∷ []
    fields_with = map_push (field_in bytes place.new) so.spans place.span ∙ (λ i. same_before i ++ place.is.is i ∷ [])

    ascii_delim : HasNoTexts context.schema.types → (k : ℕ) → k < end + 1 → get_or bytes k 0 < 128
    ascii_delim none k lt = by_place (cases_lt k end) where
      by_place : (k < end) ⊎ (end ≤ k) → get_or bytes k 0 < 128
      by_place (inl before) = ascii_more none k before
      by_place (inr behind) =
          let at : k ≡ end = omega (arith, lt, behind) in
          subst (λ b. b < 128) (sym (ap (λ n. get_or bytes n 0) at ∙ delim)) sound.delim.0

    pub one_more : HasFields context bytes (end + 1) with_cell
    one_more = record {
      spans = so.spans ++ place.span ∷ [];
      texts = place.new;
      read = read_more;
      count = sym (length-map (so.spans ++ place.span ∷ []) (field_in bytes place.new)) ∙ ap length fields_with ∙ counted;
      are = ap (cells_in context.schema context.schema.types) fields_with ∙ are_more;
      ascii = ascii_delim;
    }

  -- a line end follows
  module _ (ends : is_line_end_byte (get_or bytes end 0) ≡ true) (no_comment : begins_comment d bytes ≡ false) where
    last : IsLast d bytes end
    last = inr (high, line_end_is_no_delim d (get_or bytes end 0) sound ends)

    -- the rest of the row is the field
    rest_is : IsLast d bytes end → rest_at d bytes from ≡ raw
    rest_is (inl past) = absurd (let n : ⊥ = omega (arith, past, high) in n)
    rest_is (inr other) =
        ap (λ v. row_at d FieldStart v 0) (drop_split bytes from end is.well.reads.low ∙ ap (λ v. raw ++ v) (drop_more bytes end 0 other.0))
        ∙ row_at-ended d raw (get_or bytes end 0) (drop (end + 1) bytes) is.well.reads.inside
        (other_ends_row d (state_after d FieldStart raw) (get_or bytes end 0) (no_delim_class d (get_or bytes end 0) other.1) (is.well.reads.stops other.0))

    row_is : row_from d bytes 0 ≡ rest_at d bytes 0
    row_is = let none : 0 + row_end d RowStart bytes 0 ≡ row_end d RowStart bytes 0 = omega arith in ap (slice_range bytes 0) none ∙ row_at-start d bytes no_comment

    fields_are : fields d (row_from d bytes 0) ≡ before ++ field_of d from raw ∷ []
    fields_are =
        ap (fields d) row_is
        ∙ ap (fields_from d 0) (raw_fields-start d (rest_at d bytes 0) (begins-row_at d bytes no_comment)) ∙ sym so.read.fields
        ∙ ap (λ v. before ++ fields_from d from v) (ap (raw_fields d FieldStart) (rest_is last) ∙ raw_fields-last d raw is.well.reads.inside)

    no_flaw : flaw d (row_from d bytes 0) ≡ None
    no_flaw =
        sym (is_split d bytes from field so.spans so.texts place.new place.span so.read is.well.reads place.is last no_comment (length so.spans) refl).flaw
        ∙ ap (option_map (λ at. record { column = length so.spans; at = at })) is.well.sound

    pub last_one : IsFastRow context bytes with_cell end
    last_one = record {
      is_len = is_row_len d bytes from field so.spans so.texts place.new place.span so.read is.well.reads place.is last no_comment;
      within = omega (arith, high);
      ascii = ascii_more;
      flawless = no_flaw;
      count = ap length fields_are ∙ counted;
      are = ap (cells_in context.schema context.schema.types) fields_are ∙ are_more;
    }
