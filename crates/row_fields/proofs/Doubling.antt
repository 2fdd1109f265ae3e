-- Quotes that are doubled: where the next one stands, and what it is by the byte behind it.
use Rattle.std.proofs.Common.{◌≡◌, ℕ, ◌+◌, ◌<◌, true, false, cond, List, length, get_or, refl, sym, ◌∙◌, ap, subst, inl, inr, arith}
use Rattle.std.specs.Prelude.{◌==◌}
use Rattle.std.proofs.lemmas.Bool.{eqb-true, cases_lt}
use Rattle.byte_classes.specs.declared.class.Class.{Class}
use Rattle.byte_classes.specs.declared.class.Class.TheVariants as class
use Rattle.byte_classes.specs.Dialect.{Marks, IsDialect}
use Rattle.byte_classes.specs.Class.{class_of}
use Rattle.byte_classes.specs.Places.{first_place}
use Rattle.byte_classes.specs.Special.{is_special, next_special}
use Rattle.byte_classes.proofs.ClassLaws.{class_of-quote}
use Rattle.byte_classes.proofs.SpecialLaws.{special_inside, found_alike, thrice}
use Rattle.row_fields.specs.declared.field.Role.TheVariants as role
use Rattle.quote_automaton.specs.Automaton.{IsDoubling}
use Rattle.row_fields.specs.Reading.{HasRole, role_before}
use Rattle.row_fields.proofs.FieldReading.{doubles_quotes-true}
use Rattle.row_fields.proofs.Roles.{is_last_quote, is_quote_before}

module _ (d : Marks) (q : ℕ) (dialect : IsDialect d) (h : IsDoubling d q) where
  -- inside quotes the quote alone is special
  special_is_quote : (b : ℕ) → is_special true (class_of d b) ≡ (b == q)
  special_is_quote b = special_inside d q q b dialect h.quote h.escape ∙ thrice (b == q)

  pub found_quote : (bytes : List ℕ) (from r : ℕ) → r ≡ first_place (λ k. get_or bytes k 0 == q) from bytes → r ≡ next_special d bytes from true
  found_quote bytes from r found = found_alike d bytes from true true (λ b. b == q) r refl special_is_quote found

  -- a special byte inside quotes
  pub is_quote : (b : ℕ) → is_special true (class_of d b) ≡ true → class_of d b ≡ class.Quote
  is_quote b special = ap (class_of d) (eqb-true b q (sym (special_is_quote b) ∙ special)) ∙ class_of-quote d q dialect h.quote

  -- before another quote
  pub doubled_role : (bytes : List ℕ) (at : ℕ) → class_of d (get_or bytes at 0) ≡ class.Quote → at + 1 < length bytes → get_or bytes (at + 1) 0 ≡ q → HasRole d bytes at (role.Pair true)
  doubled_role bytes at quote lt behind =
      let is : role_before d (class_of d (get_or bytes (at + 1) 0)) ≡ role.Pair true =
      ap (role_before d) (ap (class_of d) behind ∙ class_of-quote d q dialect h.quote) ∙ ap (λ t. cond t (role.Pair true) role.Break) (doubles_quotes-true d q h) in
      subst (HasRole d bytes at) is (is_quote_before d bytes at quote lt)

  -- before a byte that ends the field, or at the end
  closing_class : (c : Class) → is_special false c ≡ true → role_before d c ≡ role.Close
  closing_class class.Lf e = refl
  closing_class class.Cr e = refl
  closing_class class.Delim e = refl
  closing_class class.Quote e = absurd (let no : ⊥ = cc in no)
  closing_class class.Escape e = absurd (let no : ⊥ = cc in no)
  closing_class class.Comment e = absurd (let no : ⊥ = cc in no)
  closing_class class.Other e = absurd (let no : ⊥ = cc in no)

  pub closing_role : (bytes : List ℕ) (at : ℕ) → class_of d (get_or bytes at 0) ≡ class.Quote → at < length bytes →
      (at + 1 < length bytes → is_special false (class_of d (get_or bytes (at + 1) 0)) ≡ true) → HasRole d bytes at role.Close
  closing_role bytes at quote within ends = elim (cases_lt (at + 1) (length bytes)) [
    | inl lt ↦ subst (HasRole d bytes at) (closing_class (class_of d (get_or bytes (at + 1) 0)) (ends lt)) (is_quote_before d bytes at quote lt)
    | inr le ↦ is_last_quote d bytes at quote within (omega (arith, within, le))
  ]
