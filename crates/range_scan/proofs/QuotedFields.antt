-- The field of a plain value between quotes.
use Rattle.std.proofs.Common.{◌≡◌, ◌≢◌, ℕ, ◌+◌, ◌-◌, ◌<◌, ◌≤◌, Bool, true, false, List, [], length, get_or, refl, sym, ◌∙◌, ap, subst, inl, inr, ◌⊎◌, arith}
use Rattle.std.specs.Prelude.{◌==◌, IfSome, Option, Some, slice_get, slice_range}
use Rattle.std.specs.List.{list_all}
use Rattle.std.proofs.lemmas.Bool.{cases_eq}
use Rattle.std.proofs.lemmas.List.Edits.{get_or-between, length-between}
use Rattle.byte_classes.specs.Class.{class_of}
use Rattle.byte_classes.specs.Dialect.{IsMark, Marks}
use Rattle.byte_classes.specs.Special.{is_special}
use Rattle.byte_classes.proofs.SearchLaws.{first_place-is}
use Rattle.quote_automaton.specs.Automaton.{IsDoubling}
use Rattle.row_fields.specs.declared.field.Ending.TheVariants as ending
use Rattle.row_fields.specs.declared.field.FieldEnd.{FieldEnd}
use Rattle.row_fields.proofs.DoubledReading.{IsNextQuote, closed, opened}
use Rattle.row_fields.proofs.Places.{places_plain}
use Rattle.row_fields.proofs.PlainReading.{all_at, differs}
use Rattle.value_types.specs.declared.types.ColumnType.{ColumnType}
use Rattle.value_types.specs.Datum.{Datum}
use Rattle.value_types.specs.OfType.{typed_cell}
use Rattle.value_types.specs.Plain.{IsPlainAt}
use Rattle.reject_book.specs.Casting.{cell_at, cell_of}
use Rattle.range_scan.specs.declared.context.Context.{Context}
use Rattle.range_scan.specs.FastRows.{is_plain_in, HoldsPlain, IsField}
use Rattle.range_scan.proofs.PlainFields.{all_plain, plain_cell, plain_is_ascii}

module _ (context : Context) (holds : HoldsPlain context) (bytes : List ℕ) (from at : ℕ) (within : from < length bytes) (doubles : IsDoubling context.dialect (get_or bytes from 0)) (ty : ColumnType)
    (plain : IsPlainAt ty bytes (from + 1) at) (closes : get_or bytes at 0 ≡ get_or bytes from 0) where
  abbrev d : Marks
  d = context.dialect

  abbrev q : ℕ
  q = get_or bytes from 0

  abbrev p : ℕ → Bool
  p = is_plain_in context.schema.types

  abbrev value : List ℕ
  value = slice_range bytes (from + 1) at

  high : at ≤ length bytes
  high = omega (arith, plain.high)

  long : length value ≡ at - (from + 1)
  long = length-between bytes (from + 1) at high

  -- the quotes are ASCII, and so is what stands between them
  pub quoted_is_ascii : (k : ℕ) → from ≤ k → k < at + 1 → get_or bytes k 0 < 128
  quoted_is_ascii k low lt = by_place (cases_eq k from) (cases_eq k at) where
    small : q < 128
    small = (subst (λ (o : Option ℕ). IfSome o (λ m. IsMark m × (m ≢ d.delim))) doubles.quote holds.leaves.sound.quote).0.0

    by_place : (k ≡ from) ⊎ (k ≢ from) → (k ≡ at) ⊎ (k ≢ at) → get_or bytes k 0 < 128
    by_place (inl first) at_end = subst (λ n. get_or bytes n 0 < 128) (sym first) small
    by_place (inr behind) (inl last) = subst (λ n. get_or bytes n 0 < 128) (sym last) (subst (λ b. b < 128) (sym closes) small)
    by_place (inr behind) (inr before) = plain_is_ascii ty bytes (from + 1) at plain k (omega (arith, low, behind)) (omega (arith, lt, before))

  module _ (column : ℕ) (next : slice_get context.schema.types column ≡ Some ty) where
    all : list_all p value ≡ true
    all = all_plain context.schema.types column ty value next plain.plain

    -- the quote is no plain byte
    other : p q ≡ false
    other = subst (λ (o : Option ℕ). IfSome o (λ m. p m ≡ false)) doubles.quote holds.leaves.quote

    none_before : (k : ℕ) → from + 1 ≤ k → k < at → (get_or bytes k 0 == q) ≡ false
    none_before k low lt =
        let below : from + 1 + (k - (from + 1)) < at = omega (arith, lt, low) in
        let place : from + 1 + (k - (from + 1)) ≡ k = omega (arith, low) in
        let byte : get_or value (k - (from + 1)) 0 ≡ get_or bytes k 0 = get_or-between bytes (from + 1) at (k - (from + 1)) 0 below ∙ ap (λ n. get_or bytes n 0) place in
        differs p (get_or bytes k 0) q (subst (λ b. p b ≡ true) byte (all_at p value all (k - (from + 1)) (omega (arith, lt, low, long)))) other

    is_next : IsNextQuote d bytes from holds.leaves.sound within doubles (from + 1) at
    is_next = sym (first_place-is (λ k. get_or bytes k 0 == q) (from + 1) at bytes (omega (arith, plain.low)) high none_before (λ _. ap (λ b. b == q) closes ∙ eq_self q)) where
      eq_self : (n : ℕ) → (n == n) ≡ true
      eq_self n = grind arith

    pub quoted_field : at + 1 < length bytes → (cell : Datum) → typed_cell value ty ≡ Some cell → is_special false (class_of d (get_or bytes (at + 1) 0)) ≡ true → IsField context ty bytes from (at + 1) cell
    quoted_field more cell is stops =
        let reads = closed d bytes from holds.leaves.sound within doubles at false (opened d bytes from holds.leaves.sound within doubles at is_next) more stops in
        let field : FieldEnd = record { at = at + 1; ending = ending.Closed false } in
        let inside : at + 1 - 1 ≡ at = omega arith in
        record {
          well = record { ending = ending.Closed false; sound = refl; reads = reads };
          casts = ap (λ f. cell_at context.schema ty (Some f)) (sym (places_plain d bytes from field [] reads refl).is)
              ∙ ap (λ n. cell_of context.schema ty true (slice_range bytes (from + 1) n)) inside
              ∙ plain_cell context.schema p ty true value holds.null (omega (arith, plain.low, long)) all ∙ is;
        }
