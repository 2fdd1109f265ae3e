-- The fields of a row are counted one behind another.
use Rattle.std.proofs.Common.{◌≡◌, ℕ, ◌+◌, ◌<◌, Bool, true, false, cond, List, [], ◌∷◌, ◌++◌, length, get_or, refl, sym, ◌∙◌, ap, subst, inr, arith}
use Rattle.std.specs.Prelude.{None, count_by, option_map}
use Rattle.std.proofs.lemmas.List.{length_push, take_all}
use Rattle.std.proofs.lemmas.List.Sums.{sum_by-append, sum_by-cons}
use Rattle.byte_classes.specs.Class.{class_of}
use Rattle.byte_classes.specs.Dialect.{IsDialect, Marks, is_byte}
use Rattle.byte_classes.specs.Fault.{is_line_end_byte}
use Rattle.byte_classes.specs.Special.{is_special, next_special}
use Rattle.quote_automaton.specs.Automaton.{IsDoubling}
use Rattle.quote_automaton.specs.Rows.{begins_comment}
use Rattle.row_fields.specs.declared.field.Ending.TheVariants as ending
use Rattle.row_fields.specs.declared.field.FieldEnd.{FieldEnd}
use Rattle.row_fields.specs.declared.span.Span.{Span}
use Rattle.row_fields.specs.Fields.{Field}
use Rattle.row_fields.specs.Reading.{HasRead}
use Rattle.row_fields.specs.Split.{IsSplit, Split, row_from, split_of}
use Rattle.row_fields.proofs.BareReading.{reads_bare}
use Rattle.row_fields.proofs.DoubledReading.{closed}
use Rattle.row_fields.proofs.FrontReading.{IsLast, has_read_more, has_read_none, is_row_len, is_split}
use Rattle.row_fields.proofs.Places.{Placed, placed}
use Rattle.row_fields.proofs.PlainReading.{line_end_is_no_delim}
use Rattle.row_fields.proofs.QuotedReading.{ReadInside}
use Rattle.dialect_rank.specs.RowCount.{HasCount, IsSoundField}
use Rattle.dialect_rank.specs.Shape.{closed_in}
use Rattle.dialect_rank.proofs.Shapes.{closed-is, shape-is}

-- ---- where a field ends

pub bare_end : (d : Marks) (bytes : List ℕ) (from end : ℕ) → from < length bytes → is_byte d.quote (get_or bytes from 0) ≡ false → end ≡ next_special d bytes from false → IsSoundField d bytes from end false
bare_end d bytes from end within bare is =
    let reads = reads_bare d bytes from end (omega (arith, within)) (λ _. bare) is in
    (record { ending = ending.Bare; sound = refl; reads = reads }, reads.ends.0)

pub quoted_end : (d : Marks) (bytes : List ℕ) (from : ℕ) → IsDialect d → from < length bytes → IsDoubling d (get_or bytes from 0) → (at : ℕ) → ReadInside d bytes from at true → at + 1 < length bytes →
    is_special false (class_of d (get_or bytes (at + 1) 0)) ≡ true → IsSoundField d bytes from (at + 1) true
quoted_end d bytes from sound within doubles at read lt stops =
    let reads = closed d bytes from sound within doubles at true read lt stops in
    (record { ending = ending.Closed true; sound = refl; reads = reads }, reads.ends.0)

-- ---- the fields so far

abbrev is_quoted_span : Span → Bool
is_quoted_span span = span.quoted

-- the bytes up to a place are so many fields, of which so many are quoted
pub record HasCounted (d : Marks) (bytes : List ℕ) (from fields quoted : ℕ) : Type 0 where
  pub spans : List Span
  pub texts : List ℕ
  pub read : HasRead d bytes from spans texts
  pub many : length spans ≡ fields
  pub closed : count_by is_quoted_span spans ≡ quoted

pub none_counted : (d : Marks) (bytes : List ℕ) → HasCounted d bytes 0 0 0
none_counted d bytes = record { spans = []; texts = []; read = has_read_none d bytes; many = refl; closed = refl }

count_push : (spans : List Span) (span : Span) → count_by is_quoted_span (spans ++ span ∷ []) ≡ count_by is_quoted_span spans + cond {A = ℕ} span.quoted 1 0
count_push spans span =
    sum_by-append (λ (s : Span). cond {A = ℕ} s.quoted 1 0) spans (span ∷ [])
    ∙ ap (λ n. count_by is_quoted_span spans + n) (sum_by-cons (λ (s : Span). cond {A = ℕ} s.quoted 1 0) span [] ∙ omega arith)

module _ (d : Marks) (sound : IsDialect d) (bytes : List ℕ) (from fields quoted : ℕ) (so : HasCounted d bytes from fields quoted) (end : ℕ) (more : Bool) (is : IsSoundField d bytes from end more) (high : end < length bytes) where
  abbrev field : FieldEnd
  field = record { at = end; ending = is.0.ending }

  place : Placed d bytes from end so.texts
  place = placed d bytes from end so.texts is.0

  abbrev with_span : List Span
  with_span = so.spans ++ place.span ∷ []

  many_more : length with_span ≡ fields + 1
  many_more = length_push so.spans place.span ∙ ap (λ n. n + 1) so.many

  closed_more : count_by is_quoted_span with_span ≡ quoted + cond {A = ℕ} more 1 0
  closed_more =
      let same : place.span.quoted ≡ more = ap (λ (f : Field). f.quoted) place.is.is ∙ is.1 in
      count_push so.spans place.span ∙ (λ i. so.closed i + cond {A = ℕ} (same i) 1 0)

  pub counted_more : get_or bytes end 0 ≡ d.delim → HasCounted d bytes (end + 1) (fields + 1) (quoted + cond {A = ℕ} more 1 0)
  counted_more delim = record {
    spans = with_span;
    texts = place.new;
    read = has_read_more d bytes from field so.spans so.texts place.new place.span so.read is.0.reads place.is sound high delim;
    many = many_more;
    closed = closed_more;
  }

  module _ (ends : is_line_end_byte (get_or bytes end 0) ≡ true) (no_comment : begins_comment d bytes ≡ false) where
    last : IsLast d bytes end
    last = inr (high, line_end_is_no_delim d (get_or bytes end 0) sound ends)

    abbrev row : List ℕ
    row = row_from d bytes 0

    abbrev split : Split
    split = split_of with_span place.new None end

    split_is : IsSplit d row split
    split_is =
        subst (λ o. IsSplit d row (split_of with_span place.new (option_map (λ at. record { column = length so.spans; at = at }) o) end)) is.0.sound
        (is_split d bytes from field so.spans so.texts place.new place.span so.read is.0.reads place.is last no_comment (length so.spans) refl)

    all_closed : closed_in split ≡ count_by is_quoted_span with_span
    all_closed = ap (count_by is_quoted_span) (take_all (length with_span) with_span (omega arith))

    pub counted_last : HasCount d bytes (record { end = end; fields = fields + 1; quoted = quoted + cond {A = ℕ} more 1 0 })
    counted_last =
        let shape = shape-is d row split split_is in
        record {
          len = is_row_len d bytes from field so.spans so.texts place.new place.span so.read is.0.reads place.is last no_comment;
          within = omega (arith, high);
          sound = sym (ap (λ s. s.sound) shape);
          fields = sym many_more ∙ ap (λ s. s.fields) shape;
          closed = sym (all_closed ∙ closed_more) ∙ closed-is d row split split_is;
        }
