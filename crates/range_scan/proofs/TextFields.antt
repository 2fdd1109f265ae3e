-- The field of a text, without quotes and between doubled ones.
use Rattle.std.proofs.Common.{◌≡◌, ℕ, ◌+◌, ◌-◌, ◌<◌, Bool, true, false, ◌&&◌, cond, List, [], ◌∷◌, ◌++◌, length, get_or, refl, sym, ◌∙◌, ap, subst, inl, inr, ◌⊎◌, arith, append-nil}
use Rattle.std.specs.Prelude.{◌==◌, ◌||◌, IfSome, Option, Some, slice_range}
use Rattle.std.specs.List.{list_any}
use Rattle.std.specs.Str.{bytes_eq}
use Rattle.std.proofs.Math.Bool.{and-false}
use Rattle.std.proofs.lemmas.Bool.{ne_eqb, or_from, or_parts, true≢false}
use Rattle.std.proofs.lemmas.List.{take_all}
use Rattle.byte_classes.specs.Class.{class_of}
use Rattle.byte_classes.specs.Dialect.{IsDialect, Marks, is_byte}
use Rattle.byte_classes.specs.Special.{is_special, next_special}
use Rattle.quote_automaton.specs.Automaton.{IsDoubling}
use Rattle.row_fields.specs.declared.field.Ending.TheVariants as ending
use Rattle.row_fields.specs.declared.field.FieldEnd.{FieldEnd}
use Rattle.row_fields.specs.Fields.{unescaped}
use Rattle.row_fields.proofs.BareReading.{reads_bare}
use Rattle.row_fields.proofs.DoubledReading.{IsNextQuote, closed, either_way, next_stands, opened, pair_at, paired}
use Rattle.row_fields.proofs.Places.{places_plain, places_unescaped}
use Rattle.row_fields.proofs.PlainReading.{bare_field_of}
use Rattle.row_fields.proofs.QuotedReading.{ReadInside, slice_first}
use Rattle.row_fields.proofs.Unescaping.{CopiedUpTo, copied_all, copied_none, copied_pair, copied_run, no_bytes}
use Rattle.value_types.specs.declared.types.ColumnType.TheVariants.{Varchar}
use Rattle.value_types.specs.Datum.{null, text}
use Rattle.value_types.specs.Null.{is_null}
use Rattle.reject_book.specs.declared.reject.Schema.{Schema}
use Rattle.reject_book.specs.Casting.{cell_at, cell_of, null_texts}
use Rattle.range_scan.specs.declared.context.Context.{Context}
use Rattle.range_scan.specs.FastRows.{HoldsFields, IsField, has_byte, text_cell}

text_casts : (schema : Schema) (quoted : Bool) (value : List ℕ) → cell_of schema Varchar quoted value ≡ Some (text_cell schema quoted value)
text_casts schema quoted value = by_test (is_null (null_texts schema) schema.allow_quoted_nulls quoted value) where
  by_test : (t : Bool) → cond t (Some null) (Some (text value)) ≡ Some (cond t null (text value))
  by_test true = refl
  by_test false = refl

-- ---- without quotes

pub bare_text : (context : Context) (bytes : List ℕ) (from end : ℕ) → from < length bytes → is_byte context.dialect.quote (get_or bytes from 0) ≡ false → end ≡ next_special context.dialect bytes from false →
    IsField context Varchar bytes from end (text_cell context.schema false (slice_range bytes from end))
bare_text context bytes from end within bare is =
    let raw : List ℕ = slice_range bytes from end in
    let reads = reads_bare context.dialect bytes from end (omega (arith, within)) (λ _. bare) is in
    record {
      well = record { ending = ending.Bare; sound = refl; reads = reads };
      casts = ap (λ f. cell_at context.schema Varchar (Some f)) (bare_field_of context.dialect from raw reads.ends.0) ∙ text_casts context.schema false raw;
    }

-- ---- a text with a quote inside isn't the one that stands for null

-- the byte stands in the text
pub record Contains (q : ℕ) (value : List ℕ) : Type 0 where
  pub before : List ℕ
  pub behind : List ℕ
  pub is : value ≡ before ++ q ∷ behind

differs : (q m : ℕ) → (m == q) ≡ false → (q == m) ≡ false
differs q m other = ne_eqb q m (λ e. let wrong : true ≡ false = sym (eq_self m) ∙ ap (λ b. m == b) (sym e) ∙ other in true≢false wrong) where
  eq_self : (n : ℕ) → (n == n) ≡ true
  eq_self n = grind arith

other_text : (q : ℕ) (xs ys nullstr : List ℕ) → list_any (λ b. b == q) nullstr ≡ false → bytes_eq (xs ++ q ∷ ys) nullstr ≡ false
other_text q [] ys [] none = refl
other_text q [] ys (m ∷ nullstr) none = ap (λ t. t && bytes_eq ys nullstr) (differs q m (or_parts (m == q) (list_any (λ b. b == q) nullstr) none).0)
other_text q (x ∷ xs) ys [] none = refl
other_text q (x ∷ xs) ys (m ∷ nullstr) none =
    ap (λ t. (x == m) && t) (other_text q xs ys nullstr (or_parts (m == q) (list_any (λ b. b == q) nullstr) none).1) ∙ and-false (x == m)

other_texts : (q : ℕ) (value : List ℕ) (texts : List (List ℕ)) → list_any (has_byte q) texts ≡ false → Contains q value → list_any (bytes_eq value) texts ≡ false
other_texts q value [] none has = refl
other_texts q value (t ∷ texts) none has =
    let parts = or_parts (has_byte q t) (list_any (has_byte q) texts) none in
    or_from (bytes_eq value t) (list_any (bytes_eq value) texts) (ap (λ v. bytes_eq v t) has.is ∙ other_text q has.before has.behind t parts.0) (other_texts q value texts parts.1 has)

quoted_casts : (schema : Schema) (q : ℕ) (value : List ℕ) → list_any (has_byte q) (null_texts schema) ≡ false → Contains q value → cell_of schema Varchar true value ≡ Some (text value)
quoted_casts schema q value none has =
    ap (λ t. cond (t && (false || schema.allow_quoted_nulls)) (Some null) (Some (text value))) (other_texts q value (null_texts schema) none has)

-- ---- between doubled quotes

same_place : (at : ℕ) → at + 1 - 1 ≡ at
same_place at = omega arith

-- the text of the field whose opening quote stands at `from`, up to a place where a quote stands, or the bytes end; it has a quote
-- inside if that isn't the first one
pub record HasText (d : Marks) (bytes : List ℕ) (from first at : ℕ) (value : List ℕ) : Type 0 where
  pub read : ReadInside d bytes from at true
  pub copied : CopiedUpTo d bytes (from + 1) at at [] value
  pub seen : (at ≡ first) ⊎ Contains (get_or bytes from 0) value

module _ (context : Context) (bytes : List ℕ) (from : ℕ) (sound : IsDialect context.dialect) (within : from < length bytes) (doubles : IsDoubling context.dialect (get_or bytes from 0)) where
  abbrev d : Marks
  d = context.dialect

  abbrev q : ℕ
  q = get_or bytes from 0

  abbrev IsNext : ℕ → ℕ → Type 0
  IsNext = IsNextQuote d bytes from sound within doubles

  -- no quote is doubled
  pub quoted_text : (at : ℕ) → IsNext (from + 1) at → at + 1 < length bytes → is_special false (class_of d (get_or bytes (at + 1) 0)) ≡ true →
      IsField context Varchar bytes from (at + 1) (text_cell context.schema true (slice_range bytes (from + 1) at))
  quoted_text at is lt stops =
      let reads = closed d bytes from sound within doubles at false (opened d bytes from sound within doubles at is) lt stops in
      let field : FieldEnd = record { at = at + 1; ending = ending.Closed false } in
      record {
        well = record { ending = ending.Closed false; sound = refl; reads = reads };
        casts = ap (λ f. cell_at context.schema Varchar (Some f)) (sym (places_plain d bytes from field [] reads refl).is)
            ∙ ap (λ n. cell_of context.schema Varchar true (slice_range bytes (from + 1) n)) (same_place at)
            ∙ text_casts context.schema true (slice_range bytes (from + 1) at);
      }

  -- ---- run by run

  none_left : (at : ℕ) (value : List ℕ) → value ++ slice_range bytes at at ≡ value
  none_left at value = ap (λ v. value ++ v) (no_bytes bytes at) ∙ append-nil value

  pub begins_text : (first : ℕ) → IsNext (from + 1) first → HasText d bytes from first first (slice_range bytes (from + 1) first)
  begins_text first is =
      let stands = next_stands d bytes from sound within doubles (from + 1) first (omega (arith, within)) is in
      record {
        read = either_way d bytes from sound within doubles first (opened d bytes from sound within doubles first is);
        copied = copied_run d bytes (from + 1) [] (from + 1) first [] (copied_none d bytes (from + 1) [] first stands.0 stands.1);
        seen = inl refl;
      }

  pub goes_on_text : (first at r : ℕ) (value : List ℕ) → HasText d bytes from first at value → at + 1 < length bytes → get_or bytes (at + 1) 0 ≡ q → IsNext (at + 2) r →
      HasText d bytes from first r (value ++ slice_range bytes (at + 1) r)
  goes_on_text first at r value so lt behind is =
      let pair = pair_at d bytes from sound within doubles at so.read lt behind in
      let stands = next_stands d bytes from sound within doubles (at + 2) r (omega (arith, lt)) is in
      let low : at + 1 < r = omega (arith, stands.0) in
      record {
        read = paired d bytes from sound within doubles at r so.read lt behind is;
        copied = subst (λ v. CopiedUpTo d bytes (from + 1) r r [] (v ++ slice_range bytes (at + 1) r)) (none_left at value)
            (copied_run d bytes (from + 1) [] (at + 1) r (value ++ slice_range bytes at at)
            (copied_pair d bytes (from + 1) [] at at r value so.copied lt stands.0 (pair.3 refl) stands.1));
        seen = inr (record { before = value; behind = slice_range bytes (at + 1 + 1) r; is = ap (λ v. value ++ v) (slice_first bytes (at + 1) r low lt ∙ ap (λ b. b ∷ slice_range bytes (at + 1 + 1) r) behind) });
      }

  pub doubled_text : (first at : ℕ) (value : List ℕ) → HoldsFields context → HasText d bytes from first at value → (at ≡ first → get_or bytes (at + 1) 0 ≡ q) → (get_or bytes (at + 1) 0 == q) ≡ false → at + 1 < length bytes →
      is_special false (class_of d (get_or bytes (at + 1) 0)) ≡ true → IsField context Varchar bytes from (at + 1) (text value)
  doubled_text first at value holds so two other lt stops =
      let reads = closed d bytes from sound within doubles at true so.read lt stops in
      let field : FieldEnd = record { at = at + 1; ending = ending.Closed true } in
      let whole : value ≡ [] ++ unescaped d (slice_range bytes (from + 1) (at + 1 - 1)) =
      sym (none_left at value) ∙ copied_all d bytes (from + 1) [] at at value so.copied ∙ ap (λ n. unescaped d (slice_range bytes (from + 1) n)) (sym (same_place at)) in
      let stored : slice_range value 0 (length value) ≡ value = take_all (length value - 0) value (omega arith) in
      record {
        well = record { ending = ending.Closed true; sound = refl; reads = reads };
        casts = ap (λ f. cell_at context.schema Varchar (Some f)) (sym (places_unescaped d bytes from field [] value 0 (length value) reads refl whole refl refl).is)
            ∙ ap (λ v. cell_of context.schema Varchar true v) stored
            ∙ quoted_casts context.schema q value (no_quote holds) (by_place so.seen);
      } where
        no_quote : HoldsFields context → list_any (has_byte q) (null_texts context.schema) ≡ false
        no_quote holds = subst (λ (o : Option ℕ). IfSome o (λ m. list_any (has_byte m) (null_texts context.schema) ≡ false)) doubles.quote holds.quote

        eq_self : (n : ℕ) → (n == n) ≡ true
        eq_self n = grind arith

        by_place : (at ≡ first) ⊎ Contains q value → Contains q value
        by_place (inl here) = absurd (true≢false (sym (ap (λ b. b == q) (two here) ∙ eq_self q) ∙ other))
        by_place (inr has) = has
