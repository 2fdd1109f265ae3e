-- One byte whose state is known by counting quotes.
use Rattle.std.proofs.Common.{◌≡◌, ℕ, Bool, true, false, cond, not, ◌&&◌, ◌||◌, refl, sym, ◌∙◌, ap, inl, inr}
use Rattle.std.specs.Prelude.{Option, Some, None, ◌==◌}
use Rattle.std.proofs.lemmas.Bool.Decides.{eqb_tells}
use Rattle.byte_classes.specs.declared.class.Class.{Class}
use Rattle.byte_classes.specs.declared.class.Class.TheVariants as class
use Rattle.byte_classes.specs.Class.{class_of, is_line_end, same_class}
use Rattle.byte_classes.specs.Dialect.{Marks, IsDialect, is_byte, is_same_byte}
use Rattle.byte_classes.specs.Special.{is_special, is_one_of}
use Rattle.byte_classes.proofs.ClassLaws.{class_of-quote, is_comment_byte}
use Rattle.byte_classes.proofs.SpecialLaws.{special_outside}
use Rattle.quote_automaton.specs.declared.state.State.TheVariants.{Quoted, Broken}
use Rattle.quote_automaton.specs.Automaton.{doubles_quotes, next, step}
use Rattle.quote_automaton.specs.Counted.{begins_counted, counted, is_misplaced, toggled}
use Rattle.quote_automaton.specs.Rows.{begins_row}

-- ---- the table

abbrev is_quote : Class → Bool
is_quote c = same_class c class.Quote

abbrev is_end : Class → Bool
is_end c = is_special false c

between : (d : Marks) (p c : Class) → (c ≡ class.Escape → ⊥) → next d (counted true p) c ≡ counted (toggled true (is_quote c)) c
between d p class.Lf bare = refl
between d p class.Cr bare = refl
between d p class.Delim bare = refl
between d p class.Quote bare = refl
between d p class.Escape bare = absurd (bare refl)
between d p class.Comment bare = refl
between d p class.Other bare = refl

outside : (d : Marks) (comment : Bool) (p c : Class) → (is_quote c ≡ true → doubles_quotes d ≡ true) → (c ≡ class.Comment → comment ≡ true) →
    is_misplaced false comment (is_quote p) (is_end p) (is_quote c) (is_end c) ≡ false → next d (counted false p) c ≡ counted (toggled false (is_quote c)) c
outside d true p c doubles told h = absurd (let no : ⊥ = cc in no)
outside d false p class.Comment doubles told h = absurd (let wrong : false ≡ true = told refl in let no : ⊥ = cc in no)
outside d false class.Lf class.Lf doubles told h = refl
outside d false class.Lf class.Cr doubles told h = refl
outside d false class.Lf class.Delim doubles told h = refl
outside d false class.Lf class.Quote doubles told h = refl
outside d false class.Lf class.Escape doubles told h = refl
outside d false class.Lf class.Other doubles told h = refl
outside d false class.Cr class.Lf doubles told h = refl
outside d false class.Cr class.Cr doubles told h = refl
outside d false class.Cr class.Delim doubles told h = refl
outside d false class.Cr class.Quote doubles told h = refl
outside d false class.Cr class.Escape doubles told h = refl
outside d false class.Cr class.Other doubles told h = refl
outside d false class.Delim class.Lf doubles told h = refl
outside d false class.Delim class.Cr doubles told h = refl
outside d false class.Delim class.Delim doubles told h = refl
outside d false class.Delim class.Quote doubles told h = refl
outside d false class.Delim class.Escape doubles told h = refl
outside d false class.Delim class.Other doubles told h = refl
outside d false class.Quote class.Lf doubles told h = refl
outside d false class.Quote class.Cr doubles told h = refl
outside d false class.Quote class.Delim doubles told h = refl
outside d false class.Quote class.Quote doubles told h = ap (λ t. cond t Quoted Broken) (doubles refl)
outside d false class.Quote class.Escape doubles told h = absurd (let no : ⊥ = cc in no)
outside d false class.Quote class.Other doubles told h = absurd (let no : ⊥ = cc in no)
outside d false class.Escape class.Lf doubles told h = refl
outside d false class.Escape class.Cr doubles told h = refl
outside d false class.Escape class.Delim doubles told h = refl
outside d false class.Escape class.Quote doubles told h = absurd (let no : ⊥ = cc in no)
outside d false class.Escape class.Escape doubles told h = refl
outside d false class.Escape class.Other doubles told h = refl
outside d false class.Comment class.Lf doubles told h = refl
outside d false class.Comment class.Cr doubles told h = refl
outside d false class.Comment class.Delim doubles told h = refl
outside d false class.Comment class.Quote doubles told h = absurd (let no : ⊥ = cc in no)
outside d false class.Comment class.Escape doubles told h = refl
outside d false class.Comment class.Other doubles told h = refl
outside d false class.Other class.Lf doubles told h = refl
outside d false class.Other class.Cr doubles told h = refl
outside d false class.Other class.Delim doubles told h = refl
outside d false class.Other class.Quote doubles told h = absurd (let no : ⊥ = cc in no)
outside d false class.Other class.Escape doubles told h = refl
outside d false class.Other class.Other doubles told h = refl

-- where a row begins behind a byte outside quotes
begins_outside : (p c : Class) → (c ≡ class.Comment → ⊥) → begins_row (counted false p) c ≡ begins_counted false (is_line_end p) (same_class c class.Lf) (same_class p class.Cr)
begins_outside class.Lf class.Lf bare = refl
begins_outside class.Lf class.Cr bare = refl
begins_outside class.Lf class.Delim bare = refl
begins_outside class.Lf class.Quote bare = refl
begins_outside class.Lf class.Escape bare = refl
begins_outside class.Lf class.Comment bare = absurd (bare refl)
begins_outside class.Lf class.Other bare = refl
begins_outside class.Cr class.Lf bare = refl
begins_outside class.Cr class.Cr bare = refl
begins_outside class.Cr class.Delim bare = refl
begins_outside class.Cr class.Quote bare = refl
begins_outside class.Cr class.Escape bare = refl
begins_outside class.Cr class.Comment bare = absurd (bare refl)
begins_outside class.Cr class.Other bare = refl
begins_outside class.Delim c bare = refl
begins_outside class.Quote c bare = refl
begins_outside class.Escape c bare = refl
begins_outside class.Comment c bare = refl
begins_outside class.Other c bare = refl

none_between : (t u v : Bool) → begins_counted true t u v ≡ false
none_between true u v = refl
none_between false u v = refl

-- ---- the classes of bytes

abbrev formed : Bool → Bool → Bool → Bool → Bool → Bool → Class
formed lf cr delim quote escape comment = cond lf class.Lf (cond cr class.Cr (cond delim class.Delim (cond quote class.Quote (cond escape class.Escape (cond comment class.Comment class.Other)))))

-- LF and CR by their values
pub lf_is : (d : Marks) (b : ℕ) → (b == 10) ≡ same_class (class_of d b) class.Lf
lf_is d b = by_tests (b == 10) (b == 13) (b == d.delim) (is_byte d.quote b) (is_byte d.escape b) (is_byte d.comment b) where
  by_tests : (lf cr delim quote escape comment : Bool) → lf ≡ same_class (formed lf cr delim quote escape comment) class.Lf
  by_tests true cr delim quote escape comment = refl
  by_tests false true delim quote escape comment = refl
  by_tests false false true quote escape comment = refl
  by_tests false false false true escape comment = refl
  by_tests false false false false true comment = refl
  by_tests false false false false false true = refl
  by_tests false false false false false false = refl

pub cr_is : (d : Marks) (b : ℕ) → (b == 13) ≡ same_class (class_of d b) class.Cr
cr_is d b = elim (eqb_tells b 13) [
  | inl same ↦ same.0 ∙ sym (ap (λ k. same_class (class_of d k) class.Cr) same.1)
  | inr other ↦ other.0 ∙ sym ((λ i. same_class (formed (b == 10) (other.0 i) (b == d.delim) (is_byte d.quote b) (is_byte d.escape b) (is_byte d.comment b)) class.Cr)
      ∙ by_tests (b == 10) (b == d.delim) (is_byte d.quote b) (is_byte d.escape b) (is_byte d.comment b))
] where
  by_tests : (lf delim quote escape comment : Bool) → same_class (formed lf false delim quote escape comment) class.Cr ≡ false
  by_tests true delim quote escape comment = refl
  by_tests false true quote escape comment = refl
  by_tests false false true escape comment = refl
  by_tests false false false true comment = refl
  by_tests false false false false true = refl
  by_tests false false false false false = refl

module _ (d : Marks) (sound : IsDialect d) (b : ℕ) where
  another : is_byte d.quote b ≡ false → is_byte d.quote b ≡ is_quote (class_of d b)
  another h = h ∙ sym ((λ i. is_quote (formed (b == 10) (b == 13) (b == d.delim) (h i) (is_byte d.escape b) (is_byte d.comment b)))
      ∙ by_tests (b == 10) (b == 13) (b == d.delim) (is_byte d.escape b) (is_byte d.comment b)) where
        by_tests : (lf cr delim escape comment : Bool) → is_quote (formed lf cr delim false escape comment) ≡ false
        by_tests true cr delim escape comment = refl
        by_tests false true delim escape comment = refl
        by_tests false false true escape comment = refl
        by_tests false false false true comment = refl
        by_tests false false false false true = refl
        by_tests false false false false false = refl

  by_quote : (o : Option ℕ) → d.quote ≡ o → is_byte d.quote b ≡ is_quote (class_of d b)
  by_quote None e = another (ap (λ o. is_byte o b) e)
  by_quote (Some q) e = elim (eqb_tells q b) [
    | inl same ↦ ap (λ o. is_byte o b) e ∙ same.0 ∙ sym (ap (λ k. is_quote (class_of d k)) (sym same.1) ∙ ap is_quote (class_of-quote d q sound e))
    | inr other ↦ another (ap (λ o. is_byte o b) e ∙ other.0)
  ]

  quote_is : is_byte d.quote b ≡ is_quote (class_of d b)
  quote_is = by_quote d.quote refl

same_tells : (p e : Option ℕ) (b : ℕ) → is_same_byte p e ≡ true → is_byte e b ≡ is_byte p b
same_tells None e b h = absurd (let no : ⊥ = cc in no)
same_tells (Some a) None b h = absurd (let no : ⊥ = cc in no)
same_tells (Some a) (Some c) b h = elim (eqb_tells c a) [
  | inl same ↦ ap (λ k. k == b) same.1
  | inr other ↦ absurd (let wrong : true ≡ false = sym h ∙ other.0 in let no : ⊥ = cc in no)
]

-- a quote that is its own escape leaves no byte to that class
no_escape : (d : Marks) (b : ℕ) → doubles_quotes d ≡ true → class_of d b ≡ class.Escape → ⊥
no_escape d b doubles h =
    by_tests (b == 10) (b == 13) (b == d.delim) (is_byte d.quote b) (is_byte d.comment b)
    ((λ i. formed (b == 10) (b == 13) (b == d.delim) (is_byte d.quote b) (sym (same_tells d.quote d.escape b doubles) i) (is_byte d.comment b)) ∙ h) where
      by_tests : (lf cr delim quote comment : Bool) → formed lf cr delim quote quote comment ≡ class.Escape → ⊥
      by_tests true cr delim quote comment h = cc
      by_tests false true delim quote comment h = cc
      by_tests false false true quote comment h = cc
      by_tests false false false true comment h = cc
      by_tests false false false false true h = cc
      by_tests false false false false false h = cc

-- ---- one byte

needs : (doubles any : Bool) → (not doubles && any) ≡ false → any ≡ true → doubles ≡ true
needs true any h is = refl
needs false true h is = absurd (let no : ⊥ = cc in no)
needs false false h is = absurd (let no : ⊥ = cc in no)

pub counted_step : (d : Marks) → IsDialect d → (inside : Bool) (p b : ℕ) → (not (doubles_quotes d) && (inside || is_byte d.quote b)) ≡ false →
    is_misplaced inside (is_byte d.comment b) (is_byte d.quote p) (is_one_of 10 13 d.delim p) (is_byte d.quote b) (is_one_of 10 13 d.delim b) ≡ false →
    step d (counted inside (class_of d p)) b ≡ counted (toggled inside (is_byte d.quote b)) (class_of d b)
counted_step d sound true p b seen h =
    between d (class_of d p) (class_of d b) (no_escape d b (needs (doubles_quotes d) true seen refl)) ∙ ap (λ t. counted (toggled true t) (class_of d b)) (sym (quote_is d sound b))
counted_step d sound false p b seen h =
    let comment : Bool = is_byte d.comment b in
    let placed : is_misplaced false comment (is_quote (class_of d p)) (is_end (class_of d p)) (is_quote (class_of d b)) (is_end (class_of d b)) ≡ false =
    (λ i. is_misplaced false comment ((sym (quote_is d sound p)) i) (special_outside d p i) ((sym (quote_is d sound b)) i) (special_outside d b i)) ∙ h in
    outside d comment (class_of d p) (class_of d b) (λ is. needs (doubles_quotes d) (is_byte d.quote b) seen (quote_is d sound b ∙ is)) (is_comment_byte d b) placed
    ∙ ap (λ t. counted (toggled false t) (class_of d b)) (sym (quote_is d sound b))

-- whether a row begins there
pub counted_begins : (d : Marks) (inside : Bool) (p b : ℕ) → (not inside && is_byte d.comment b) ≡ false →
    begins_row (counted inside (class_of d p)) (class_of d b) ≡ begins_counted inside (is_line_end (class_of d p)) (b == 10) (p == 13)
counted_begins d true p b bare = sym (none_between (is_line_end (class_of d p)) (b == 10) (p == 13))
counted_begins d false p b bare =
    begins_outside (class_of d p) (class_of d b) (λ is. let wrong : true ≡ false = sym (is_comment_byte d b is) ∙ bare in let no : ⊥ = cc in no)
    ∙ (λ i. begins_counted false (is_line_end (class_of d p)) (sym (lf_is d b) i) (sym (cr_is d p) i))
