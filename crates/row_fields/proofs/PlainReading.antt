-- The reading of a field whose bytes have no meaning of their own, and what may follow it.
use Rattle.std.proofs.Common.{◌≡◌, ℕ, ◌<◌, ◌≤◌, Bool, true, false, ◌&&◌, ◌||◌, cond, List, [], ◌∷◌, length, get_or, refl, sym, ◌∙◌, ap, arith}
use Rattle.std.specs.Prelude.{◌==◌, Option, Some, None, IfSome, slice_range}
use Rattle.std.specs.List.{list_all}
use Rattle.std.proofs.lemmas.Bool.{ne_eqb}
use Rattle.std.proofs.lemmas.List.Folds.{list_all_at}
use Rattle.byte_classes.specs.declared.class.Class.TheVariants as class
use Rattle.byte_classes.specs.Dialect.{IsDialect, Marks, is_byte}
use Rattle.byte_classes.specs.Class.{class_of, same_class}
use Rattle.byte_classes.specs.Fault.{is_line_end_byte}
use Rattle.byte_classes.specs.Special.{is_special}
use Rattle.byte_classes.proofs.ClassLaws.{class_of-delim}
use Rattle.quote_automaton.specs.declared.state.State.TheVariants.{FieldStart}
use Rattle.quote_automaton.specs.Automaton.{state_after, is_inside_quotes}
use Rattle.row_fields.specs.declared.field.Ending.TheVariants as ending
use Rattle.row_fields.specs.Fields.{is_quoted, is_sound_end, unescaped, inner}
use Rattle.row_fields.specs.Plain.{LeavesPlain}
use Rattle.row_fields.specs.Reading.{ends_field, ReadsField, field_of}
use Rattle.row_fields.proofs.BareReading.{not_quote_class}
use Rattle.row_fields.proofs.Leading.{AllOrdinary, LeadsBare, leads_bare, line_end_class}

-- ---- a field without quotes

pub no_delim_class : (d : Marks) (b : ℕ) → (b == d.delim) ≡ false → same_class (class_of d b) class.Delim ≡ false
no_delim_class d b h =
    ap (λ t. same_class (cond (b == 10) class.Lf (cond (b == 13) class.Cr (cond t class.Delim (cond (is_byte d.quote b) class.Quote (cond (is_byte d.escape b) class.Escape (cond (is_byte d.comment b) class.Comment class.Other)))))) class.Delim) h
    ∙ by_tests (b == 10) (b == 13) (is_byte d.quote b) (is_byte d.escape b) (is_byte d.comment b) where
      by_tests : (lf cr quote escape comment : Bool) →
          same_class (cond lf class.Lf (cond cr class.Cr (cond quote class.Quote (cond escape class.Escape (cond comment class.Comment class.Other))))) class.Delim ≡ false
      by_tests true cr quote escape comment = refl
      by_tests false true quote escape comment = refl
      by_tests false false true escape comment = refl
      by_tests false false false true comment = refl
      by_tests false false false false true = refl
      by_tests false false false false false = refl

-- ordinary bytes up to one that ends a field
pub reads_ordinary : (d : Marks) (bytes : List ℕ) (from end : ℕ) → from ≤ end → end < length bytes → is_quoted d (slice_range bytes from end) ≡ false → AllOrdinary d false (slice_range bytes from end) →
    is_special false (class_of d (get_or bytes end 0)) ≡ true → ReadsField d bytes from (record { at = end; ending = ending.Bare })
reads_ordinary d bytes from end low high bare each stops =
    let raw : List ℕ = slice_range bytes from end in
    let leads : LeadsBare d raw = leads_bare d raw each (first raw bare) in
    record {
      low = low;
      high = omega (arith, high);
      inside = leads.leads.inside;
      stops = λ more. ap (λ s. ends_field d s (get_or bytes end 0)) leads.leads.to ∙ leads.stops (class_of d (get_or bytes end 0)) stops;
      ends = (bare, leads.leads.unbroken, ap is_inside_quotes leads.leads.to ∙ leads.outside);
    } where
      first : (xs : List ℕ) → is_quoted d xs ≡ false → 0 < length xs → same_class (class_of d (get_or xs 0 0)) class.Quote ≡ false
      first [] bare some = absurd (let n : ⊥ = omega (arith, some) in n)
      first (x ∷ xs) bare some = not_quote_class d x bare

pub bare_field_of : (d : Marks) (from : ℕ) (raw : List ℕ) → is_quoted d raw ≡ false → field_of d from raw ≡ record { at = from; quoted = false; value = raw }
bare_field_of d from raw bare = λ i. record { at = from; quoted = bare i; value = cond (bare i && is_sound_end (state_after d FieldStart raw)) (unescaped d (inner raw)) raw }

-- ---- what may follow a field

pub delim_stops : (d : Marks) (b : ℕ) → IsDialect d → b ≡ d.delim → is_special false (class_of d b) ≡ true
delim_stops d b sound is = ap (is_special false) (ap (class_of d) is ∙ class_of-delim d sound)

pub line_end_stops : (d : Marks) (b : ℕ) → is_line_end_byte b ≡ true → is_special false (class_of d b) ≡ true
line_end_stops d b is = λ i. (line_end_class d b ∙ is) i || same_class (class_of d b) class.Delim

pub line_end_is_no_delim : (d : Marks) (b : ℕ) → IsDialect d → is_line_end_byte b ≡ true → (b == d.delim) ≡ false
line_end_is_no_delim d b sound is = ne_eqb b d.delim (λ e.
    let delim : is_line_end_byte d.delim ≡ false = λ i. ne_eqb d.delim 10 sound.delim.1 i || ne_eqb d.delim 13 sound.delim.2 i in
    let wrong : true ≡ false = sym is ∙ ap is_line_end_byte e ∙ delim in
    let n : ⊥ = cc in n)

-- ---- a plain byte

module _ (p : ℕ → Bool) where
  -- two bytes differ of which one alone may stand in a plain value
  pub differs : (b m : ℕ) → p b ≡ true → p m ≡ false → (b == m) ≡ false
  differs b m num other = ne_eqb b m (λ e. let wrong : true ≡ false = sym num ∙ ap p e ∙ other in let n : ⊥ = cc in n)

  no_mark : (o : Option ℕ) (b : ℕ) → p b ≡ true → IfSome o (λ m. p m ≡ false) → is_byte o b ≡ false
  no_mark None b num other = refl
  no_mark (Some m) b num other = ne_eqb m b (λ e. let wrong : true ≡ false = sym num ∙ ap p (sym e) ∙ other in let n : ⊥ = cc in n)

  -- each byte of a plain value
  pub all_at : (xs : List ℕ) → list_all p xs ≡ true → (k : ℕ) → k < length xs → p (get_or xs k 0) ≡ true
  all_at xs all k lt = by_test (p (get_or xs k 0)) refl where
    by_test : (t : Bool) → p (get_or xs k 0) ≡ t → p (get_or xs k 0) ≡ true
    by_test true is = is
    by_test false is = absurd (let wrong : true ≡ false = sym all ∙ list_all_at p xs k 0 lt is in let n : ⊥ = cc in n)

  module _ (d : Marks) (holds : LeavesPlain p d) where
    -- it has no class but that of an escape
    module _ (b : ℕ) (num : p b ≡ true) where
      plain_class : class_of d b ≡ cond (is_byte d.escape b) class.Escape class.Other
      plain_class = λ i. cond (differs b 10 num holds.lf i) class.Lf (cond (differs b 13 num holds.cr i) class.Cr (cond (differs b d.delim num holds.delim i) class.Delim
          (cond (no_mark d.quote b num holds.quote i) class.Quote (cond (is_byte d.escape b) class.Escape (cond (no_mark d.comment b num holds.comment i) class.Comment class.Other)))))

      plain_is_ordinary : is_special false (class_of d b) ≡ false
      plain_is_ordinary = ap (is_special false) plain_class ∙ by_test (is_byte d.escape b) where
        by_test : (t : Bool) → is_special false (cond t class.Escape class.Other) ≡ false
        by_test true = refl
        by_test false = refl

    bare_front : (xs : List ℕ) → list_all p xs ≡ true → is_quoted d xs ≡ false
    bare_front [] all = refl
    bare_front (x ∷ xs) all = no_mark d.quote x (all_at (x ∷ xs) all 0 (omega arith)) holds.quote

    pub reads_plain : (bytes : List ℕ) (from end : ℕ) → from ≤ end → end < length bytes → list_all p (slice_range bytes from end) ≡ true → is_special false (class_of d (get_or bytes end 0)) ≡ true →
        (is_quoted d (slice_range bytes from end) ≡ false) × ReadsField d bytes from (record { at = end; ending = ending.Bare })
    reads_plain bytes from end low high all stops =
        let raw : List ℕ = slice_range bytes from end in
        let bare : is_quoted d raw ≡ false = bare_front raw all in
        (bare, reads_ordinary d bytes from end low high bare (λ k lt. plain_is_ordinary (get_or raw k 0) (all_at raw all k lt)) stops)
