-- The first fields of a row, whatever follows them.
use Rattle.std.proofs.Common.{◌≡◌, ℕ, zero, suc, drop, take, ◌+◌, ◌-◌, ◌<◌, true, false, List, [], ◌∷◌, ◌++◌, length, get_or, ◌∙◌, ap, arith}
use Rattle.std.specs.Prelude.{Some, slice_get, slice_range}
use Rattle.std.proofs.lemmas.List.{drop_more}
use Rattle.std.proofs.lemmas.List.Folds.{drop_split}
use Rattle.byte_classes.specs.declared.class.Class.TheVariants as class
use Rattle.byte_classes.specs.Dialect.{IsDialect, Marks}
use Rattle.byte_classes.specs.Class.{class_of}
use Rattle.byte_classes.specs.Fault.{is_line_end_byte}
use Rattle.byte_classes.proofs.ClassLaws.{class_of-delim}
use Rattle.quote_automaton.specs.declared.state.State.TheVariants.{RowStart, FieldStart}
use Rattle.quote_automaton.specs.Automaton.{state_after}
use Rattle.quote_automaton.specs.Rows.{begins_comment, row_at, row_end}
use Rattle.row_fields.specs.declared.field.FieldEnd.{FieldEnd}
use Rattle.row_fields.specs.Fields.{Field, raw_fields, fields_from, fields}
use Rattle.row_fields.specs.Reading.{ReadsField, field_of, rest_at}
use Rattle.row_fields.specs.Split.{row_from}
use Rattle.row_fields.proofs.PlainReading.{line_end_is_no_delim, no_delim_class}
use Rattle.row_fields.proofs.RowSteps.{row_at-start, begins-row_at, raw_fields-start, row_at-ended, raw_fields-last, row_at-separated, raw_fields-separated, other_ends_row}

-- from this number on the fields are those of the bytes from a place on
pub record HasRest (d : Marks) (bytes : List ℕ) (fs : List Field) (k from : ℕ) : Type 0 where
  pub at : ℕ
  pub are : drop k fs ≡ fields_from d at (raw_fields d FieldStart (rest_at d bytes from))

pub has_rest_all : (d : Marks) (bytes : List ℕ) (start : ℕ) → begins_comment d (drop start bytes) ≡ false → HasRest d bytes (fields d (row_from d bytes start)) 0 start
has_rest_all d bytes start no_comment =
    let count : start + row_end d RowStart (drop start bytes) 0 - start ≡ row_end d RowStart (drop start bytes) 0 - 0 = omega arith in
    let row : row_from d bytes start ≡ rest_at d bytes start = ap (λ k. take k (drop start bytes)) count ∙ row_at-start d (drop start bytes) no_comment in
    record {
      at = 0;
      are = ap (fields d) row ∙ ap (fields_from d 0) (raw_fields-start d (rest_at d bytes start) (begins-row_at d (drop start bytes) no_comment));
    }

-- a list of which the rest begins so
at_drop : (l : List Field) (k : ℕ) (x : Field) (ys : List Field) → drop k l ≡ x ∷ ys → (slice_get l k ≡ Some x) × (drop (suc k) l ≡ ys)
at_drop [] zero x ys is = absurd (let out : ⊥ = cc in out)
at_drop [] (suc k) x ys is = absurd (let out : ⊥ = cc in out)
at_drop (y ∷ l) zero x ys is = (ap Some (ap (λ zs. first_of zs y) is), ap (drop 1) is) where
  first_of : List Field → Field → Field
  first_of [] other = other
  first_of (z ∷ zs) other = z
at_drop (y ∷ l) (suc k) x ys is = at_drop l k x ys is

module _ (d : Marks) (sound : IsDialect d) (bytes : List ℕ) (fs : List Field) (k from : ℕ) (rest : HasRest d bytes fs k from) (field : FieldEnd) (reads : ReadsField d bytes from field) (high : field.at < length bytes) where
  abbrev raw : List ℕ
  raw = slice_range bytes from field.at

  abbrev stop : ℕ
  stop = get_or bytes field.at 0

  cut : drop from bytes ≡ raw ++ stop ∷ drop (field.at + 1) bytes
  cut = drop_split bytes from field.at reads.low ∙ ap (λ v. raw ++ v) (drop_more bytes field.at 0 high)

  -- a delimiter follows
  module _ (delim : stop ≡ d.delim) where
    is_delim : class_of d stop ≡ class.Delim
    is_delim = ap (class_of d) delim ∙ class_of-delim d sound

    first : raw_fields d FieldStart (rest_at d bytes from) ≡ raw ∷ raw_fields d FieldStart (rest_at d bytes (field.at + 1))
    first =
        ap (raw_fields d FieldStart) (ap (λ v. row_at d FieldStart v 0) cut ∙ row_at-separated d raw stop reads.inside is_delim (reads.stops high) (drop (field.at + 1) bytes))
        ∙ raw_fields-separated d raw stop reads.inside is_delim (reads.stops high) (rest_at d bytes (field.at + 1))

    found : (slice_get fs k ≡ Some (field_of d rest.at raw)) × (drop (suc k) fs ≡ fields_from d (rest.at + length raw + 1) (raw_fields d FieldStart (rest_at d bytes (field.at + 1))))
    found = at_drop fs k (field_of d rest.at raw) (fields_from d (rest.at + length raw + 1) (raw_fields d FieldStart (rest_at d bytes (field.at + 1)))) (rest.are ∙ ap (fields_from d rest.at) first)

    pub field_before_delim : slice_get fs k ≡ Some (field_of d rest.at raw)
    field_before_delim = found.0

    pub rest_behind : HasRest d bytes fs (k + 1) (field.at + 1)
    rest_behind = record {
      at = rest.at + length raw + 1;
      are = (let same : k + 1 ≡ suc k = omega arith in ap (λ n. drop n fs) same) ∙ found.1;
    }

  -- a line end follows
  module _ (ends : is_line_end_byte stop ≡ true) where
    alone : raw_fields d FieldStart (rest_at d bytes from) ≡ raw ∷ []
    alone =
        ap (raw_fields d FieldStart) (ap (λ v. row_at d FieldStart v 0) cut
        ∙ row_at-ended d raw stop (drop (field.at + 1) bytes) reads.inside (other_ends_row d (state_after d FieldStart raw) stop (no_delim_class d stop (line_end_is_no_delim d stop sound ends)) (reads.stops high)))
        ∙ raw_fields-last d raw reads.inside

    pub field_before_line_end : slice_get fs k ≡ Some (field_of d rest.at raw)
    field_before_line_end = (at_drop fs k (field_of d rest.at raw) [] (rest.are ∙ ap (fields_from d rest.at) alone)).0
