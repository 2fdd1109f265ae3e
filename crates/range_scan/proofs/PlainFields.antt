-- The field of a plain value, and an empty one.
use Rattle.std.proofs.Common.{◌≡◌, ℕ, zero, suc, ◌+◌, ◌-◌, ◌<◌, ◌≤◌, Bool, true, false, ◌&&◌, cond, List, [], ◌∷◌, length, get_or, refl, sym, ◌∙◌, ap, subst, arith}
use Rattle.std.specs.Prelude.{◌||◌, not, Option, Some, None, slice_get, slice_range}
use Rattle.std.specs.List.{list_all, list_any}
use Rattle.std.specs.Option.{is_some}
use Rattle.std.specs.Str.{bytes_eq}
use Rattle.std.proofs.lemmas.Bool.{and_parts, and_from, or_from, or_left, or_parts, or_right, true≢false}
use Rattle.std.proofs.lemmas.List.Edits.{get_or-between, length-between}
use Rattle.std.proofs.lemmas.Option.{none-some, same_Some}
use Rattle.byte_classes.specs.Class.{class_of}
use Rattle.byte_classes.specs.Special.{is_special}
use Rattle.row_fields.specs.declared.field.Ending.TheVariants as ending
use Rattle.row_fields.specs.Fields.{is_quoted}
use Rattle.row_fields.proofs.Unescaping.{no_bytes}
use Rattle.row_fields.proofs.PlainReading.{all_at, bare_field_of, differs, reads_ordinary, reads_plain}
use Rattle.value_types.specs.declared.types.ColumnType.{ColumnType}
use Rattle.value_types.specs.declared.types.ColumnType.TheVariants as types
use Rattle.value_types.specs.Datum.{Datum, null}
use Rattle.value_types.specs.Null.{is_null}
use Rattle.value_types.specs.OfType.{typed_cell}
use Rattle.value_types.specs.Plain.{is_plain, IsPlainAt}
use Rattle.reject_book.specs.declared.reject.Schema.{Schema}
use Rattle.reject_book.specs.Casting.{cell_at, cell_of, null_texts}
use Rattle.range_scan.specs.declared.context.Context.{Context}
use Rattle.range_scan.specs.FastRows.{begins_plain, is_plain_in, HoldsPlain, IsField}

-- ---- its cell

not_null : (p : ℕ → Bool) (value nullstr : List ℕ) → 0 < length value → list_all p value ≡ true → begins_plain p nullstr ≡ false → bytes_eq value nullstr ≡ false
not_null p [] nullstr some num other = absurd (let n : ⊥ = omega (arith, some) in n)
not_null p (b ∷ value) [] some num other = refl
not_null p (b ∷ value) (m ∷ nullstr) some num other = ap (λ t. t && bytes_eq value nullstr) (differs p b m (all_at p (b ∷ value) num 0 (omega arith)) other)

none_null : (p : ℕ → Bool) (value : List ℕ) (texts : List (List ℕ)) → 0 < length value → list_all p value ≡ true → list_any (begins_plain p) texts ≡ false → list_any (bytes_eq value) texts ≡ false
none_null p value [] some num other = refl
none_null p value (text ∷ texts) some num other =
    let parts = or_parts (begins_plain p text) (list_any (begins_plain p) texts) other in
    or_from (bytes_eq value text) (list_any (bytes_eq value) texts) (not_null p value text some num parts.0) (none_null p value texts some num parts.1)

pub plain_cell : (schema : Schema) (p : ℕ → Bool) (ty : ColumnType) (quoted : Bool) (value : List ℕ) → list_any (begins_plain p) (null_texts schema) ≡ false → 0 < length value → list_all p value ≡ true →
    cell_of schema ty quoted value ≡ typed_cell value ty
plain_cell schema p ty quoted value other some num = λ i. cond (none_null p value (null_texts schema) some num other i && (not quoted || schema.allow_quoted_nulls)) (Some null) (typed_cell value ty)

plain_byte_is_ascii : (ty : ColumnType) (b : ℕ) → is_plain ty b ≡ true → b < 128
plain_byte_is_ascii types.Boolean b is = grind (arith, is)
plain_byte_is_ascii types.Bigint b is = grind (arith, is)
plain_byte_is_ascii types.Date b is = grind (arith, is)
plain_byte_is_ascii types.Time b is = grind (arith, is)
plain_byte_is_ascii types.Timestamp b is = grind (arith, is)
plain_byte_is_ascii types.Varchar b is = absurd (true≢false (sym is))

-- a byte that is plain to the type of a column is plain to the columns
plain_to_all : (tys : List ColumnType) (k : ℕ) (ty : ColumnType) (b : ℕ) → slice_get tys k ≡ Some ty → is_plain ty b ≡ true → is_plain_in tys b ≡ true
plain_to_all [] k ty b is plain = absurd (none-some ty is)
plain_to_all (t ∷ tys) zero ty b is plain = or_left (is_plain t b) (is_plain_in tys b) (ap (λ u. is_plain u b) (same_Some t ty is) ∙ plain)
plain_to_all (t ∷ tys) (suc k) ty b is plain = or_right (is_plain t b) (is_plain_in tys b) (plain_to_all tys k ty b is plain)

pub all_plain : (tys : List ColumnType) (k : ℕ) (ty : ColumnType) (xs : List ℕ) → slice_get tys k ≡ Some ty → list_all (is_plain ty) xs ≡ true → list_all (is_plain_in tys) xs ≡ true
all_plain tys k ty [] is all = refl
all_plain tys k ty (x ∷ xs) is all = let parts = and_parts _ _ all in and_from _ _ (plain_to_all tys k ty x is parts.0) (all_plain tys k ty xs is parts.1)

module _ (ty : ColumnType) (bytes : List ℕ) (from end : ℕ) (at : IsPlainAt ty bytes from end) where
  abbrev raw : List ℕ
  raw = slice_range bytes from end

  pub plain_is_ascii : (k : ℕ) → from ≤ k → k < end → get_or bytes k 0 < 128
  plain_is_ascii k low lt =
      let high : end ≤ length bytes = omega (arith, at.high) in
      let below : from + (k - from) < end = omega (arith, lt, low) in
      let place : from + (k - from) ≡ k = omega (arith, low) in
      let inside : k - from < length raw = omega (arith, lt, low, length-between bytes from end high) in
      subst (λ b. b < 128) (get_or-between bytes from end (k - from) 0 below ∙ ap (λ n. get_or bytes n 0) place)
      (plain_byte_is_ascii ty (get_or raw (k - from) 0) (all_at (is_plain ty) raw at.plain (k - from) inside))

  pub plain_value : (cell : Datum) × (typed_cell raw ty ≡ Some cell)
  plain_value = by_option (typed_cell raw ty) at.spelled where
    by_option : (o : Option Datum) → is_some o ≡ true → (cell : Datum) × (o ≡ Some cell)
    by_option None is = absurd (true≢false (sym is))
    by_option (Some cell) is = (cell, refl)

  pub plain_field : (context : Context) → HoldsPlain context → (column : ℕ) → slice_get context.schema.types column ≡ Some ty → (cell : Datum) → typed_cell raw ty ≡ Some cell →
      is_special false (class_of context.dialect (get_or bytes end 0)) ≡ true → IsField context ty bytes from end cell
  plain_field context holds column next cell value stops =
      let p : ℕ → Bool = is_plain_in context.schema.types in
      let all = all_plain context.schema.types column ty raw next at.plain in
      let low : from ≤ end = omega (arith, at.low) in
      let high : end ≤ length bytes = omega (arith, at.high) in
      let reads = reads_plain p context.dialect holds.leaves bytes from end low at.high all stops in
      record {
        well = record { ending = ending.Bare; sound = refl; reads = reads.1 };
        casts = ap (λ f. cell_at context.schema ty (Some f)) (bare_field_of context.dialect from raw reads.0)
            ∙ plain_cell context.schema p ty false raw holds.null (omega (arith, at.low, length-between bytes from end high)) all ∙ value;
      }

-- ---- a field of no bytes

pub empty_field : (context : Context) (ty : ColumnType) (bytes : List ℕ) (from : ℕ) → from < length bytes → is_null (null_texts context.schema) context.schema.allow_quoted_nulls false [] ≡ true →
    is_special false (class_of context.dialect (get_or bytes from 0)) ≡ true → IsField context ty bytes from from null
empty_field context ty bytes from high is stops =
    let raw : List ℕ = slice_range bytes from from in
    let none : raw ≡ [] = no_bytes bytes from in
    let bare : is_quoted context.dialect raw ≡ false = ap (is_quoted context.dialect) none in
    let reads = reads_ordinary context.dialect bytes from from (omega arith) high bare (λ k lt. absurd (let n : ⊥ = omega (arith, lt, ap length none) in n)) stops in
    record {
      well = record { ending = ending.Bare; sound = refl; reads = reads };
      casts = ap (λ f. cell_at context.schema ty (Some f)) (bare_field_of context.dialect from raw bare)
          ∙ ap (λ t. cond t (Some null) (typed_cell raw ty)) (ap (is_null (null_texts context.schema) context.schema.allow_quoted_nulls false) none ∙ is);
    }
