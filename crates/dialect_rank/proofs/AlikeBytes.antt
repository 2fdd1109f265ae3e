-- Bytes that two dialects read alike.
use Rattle.std.proofs.Common.{◌≡◌, ℕ, Bool, true, false, ◌&&◌, ◌||◌, cond, List, [], ◌∷◌, refl, sym, ◌∙◌, ap}
use Rattle.std.specs.Prelude.{◌≢◌, ◌==◌, Option, Some, None, IfSome}
use Rattle.std.proofs.lemmas.Bool.{eqb-true, ne_eqb}
use Rattle.byte_classes.specs.declared.class.Class.{Class}
use Rattle.byte_classes.specs.declared.class.Class.TheVariants as class
use Rattle.byte_classes.specs.Class.{class_of, same_class}
use Rattle.byte_classes.specs.Dialect.{Marks, IsDialect, IsMark, is_byte, is_same_byte}
use Rattle.quote_automaton.specs.declared.state.State.{State}
use Rattle.quote_automaton.specs.declared.state.State.TheVariants.{RowStart, FieldStart, Plain, Quoted, Escape, QuoteSeen, Broken, CrSeen, Comment}
use Rattle.quote_automaton.specs.Automaton.{by_class, doubles_quotes, next, step}
use Rattle.quote_automaton.specs.Rows.{begins_row, ends_row}
use Rattle.row_fields.specs.Fields.{is_escaped_pair, is_quote, unescaped}

-- a byte that is read in this state leads on alike, to a state that is one of those that occur
pub record StepsAlike (d e : Marks) (occurs : State → Bool) (s : State) (b : ℕ) : Type 0 where
  pub to : step d s b ≡ step e s b
  pub on : occurs (step d s b) ≡ true
  pub begins : begins_row s (class_of d b) ≡ begins_row s (class_of e b)
  pub ends : ends_row s (class_of d b) ≡ ends_row s (class_of e b)

-- a byte is read alike in each state that occurs; and where fields are quoted, they are unescaped alike
pub record ReadsAlike (d e : Marks) (occurs : State → Bool) (b : ℕ) : Type 0 where
  pub steps : (s : State) → occurs s ≡ true → StepsAlike d e occurs s b
  pub quote : is_quote d b ≡ is_quote e b
  pub unescapes : is_quote d b ≡ true → (bytes : List ℕ) → unescaped d bytes ≡ unescaped e bytes

-- the class of a byte by what it is
abbrev pub class_by : Bool → Bool → Bool → Bool → Bool → Bool → Class
class_by lf cr delim quote escape comment =
    cond lf class.Lf (cond cr class.Cr (cond delim class.Delim (cond quote class.Quote (cond escape class.Escape (cond comment class.Comment class.Other)))))

-- ---- dialects that quote in the same way

abbrev pub any_state : State → Bool
any_state s = true

same_next : (d e : Marks) → doubles_quotes d ≡ doubles_quotes e → (s : State) (c : Class) → next d s c ≡ next e s c
same_next d e same RowStart c = refl
same_next d e same FieldStart c = refl
same_next d e same Plain c = refl
same_next d e same Quoted c = refl
same_next d e same Escape c = refl
same_next d e same QuoteSeen c = λ i. by_class RowStart CrSeen FieldStart (cond (same i) Quoted Broken) Broken Broken Broken c
same_next d e same Broken c = refl
same_next d e same CrSeen c = refl
same_next d e same Comment c = refl

module _ (d e : Marks) (quote : d.quote ≡ e.quote) (escape : d.escape ≡ e.escape) where
  pair_alike : (a b : ℕ) → is_escaped_pair d a b ≡ is_escaped_pair e a b
  pair_alike a b = λ i. is_byte (escape i) a && (is_byte (quote i) b || is_byte (escape i) b)

  pub unescaped_alike : (bytes : List ℕ) → unescaped d bytes ≡ unescaped e bytes
  unescaped_alike [] = refl
  unescaped_alike (a ∷ []) = refl
  unescaped_alike (a ∷ b ∷ bytes) = λ i. elim (pair_alike a b i) as (λ _. List ℕ) [ true ↦ b ∷ unescaped_alike bytes i | false ↦ a ∷ unescaped_alike (b ∷ bytes) i ]

  pub quoting_alike : (b : ℕ) → (b == d.delim) ≡ (b == e.delim) → d.comment ≡ e.comment → ReadsAlike d e any_state b
  quoting_alike b delim comment =
      let same : class_of d b ≡ class_of e b = λ i. class_by (b == 10) (b == 13) (delim i) (is_byte (quote i) b) (is_byte (escape i) b) (is_byte (comment i) b) in
      record {
        steps = λ s occurs. record {
          to = ap (next d s) same ∙ same_next d e (λ i. is_same_byte (quote i) (escape i)) s (class_of e b);
          on = refl;
          begins = ap (begins_row s) same;
          ends = ap (ends_row s) same;
        };
        quote = ap (λ q. is_byte q b) quote;
        unescapes = λ _ bytes. unescaped_alike bytes;
      }

-- ---- dialects whose quotes aren't there

-- the states that bytes lead to of which none is the quote
abbrev pub is_outside : State → Bool
is_outside RowStart = true
is_outside FieldStart = true
is_outside Plain = true
is_outside Quoted = false
is_outside Escape = false
is_outside QuoteSeen = false
is_outside Broken = false
is_outside CrSeen = true
is_outside Comment = true

-- a class, where outside quotes an escape is a byte as any other
abbrev outside_class : Class → Class
outside_class class.Lf = class.Lf
outside_class class.Cr = class.Cr
outside_class class.Delim = class.Delim
outside_class class.Quote = class.Quote
outside_class class.Escape = class.Other
outside_class class.Comment = class.Comment
outside_class class.Other = class.Other

-- a line of the table, but for one class
pub each : (P : State → Type 0) (out : Class) (lf cr delim quote escape comment other : State) →
    (same_class class.Lf out ≡ false → P lf) → (same_class class.Cr out ≡ false → P cr) → (same_class class.Delim out ≡ false → P delim) → (same_class class.Quote out ≡ false → P quote) →
    (same_class class.Escape out ≡ false → P escape) → (same_class class.Comment out ≡ false → P comment) → (same_class class.Other out ≡ false → P other) →
    (c : Class) → same_class c out ≡ false → P (by_class lf cr delim quote escape comment other c)
each P out _ _ _ _ _ _ _ of_lf _ _ _ _ _ _ class.Lf h = of_lf h
each P out _ _ _ _ _ _ _ _ of_cr _ _ _ _ _ class.Cr h = of_cr h
each P out _ _ _ _ _ _ _ _ _ of_delim _ _ _ _ class.Delim h = of_delim h
each P out _ _ _ _ _ _ _ _ _ _ of_quote _ _ _ class.Quote h = of_quote h
each P out _ _ _ _ _ _ _ _ _ _ _ of_escape _ _ class.Escape h = of_escape h
each P out _ _ _ _ _ _ _ _ _ _ _ _ of_comment _ class.Comment h = of_comment h
each P out _ _ _ _ _ _ _ _ _ _ _ _ _ of_other class.Other h = of_other h

abbrev Outside : State → Type 0
Outside s = is_outside s ≡ true

quote_out : same_class class.Quote class.Quote ≡ false → Outside Quoted
quote_out h = absurd (let no : ⊥ = cc in no)

stays_outside : (d : Marks) (s : State) (c : Class) → is_outside s ≡ true → same_class c class.Quote ≡ false → is_outside (next d s c) ≡ true
stays_outside d RowStart c o h = each Outside class.Quote RowStart CrSeen FieldStart Quoted Plain Comment Plain (λ _. refl) (λ _. refl) (λ _. refl) quote_out (λ _. refl) (λ _. refl) (λ _. refl) c h
stays_outside d FieldStart c o h = each Outside class.Quote RowStart CrSeen FieldStart Quoted Plain Plain Plain (λ _. refl) (λ _. refl) (λ _. refl) quote_out (λ _. refl) (λ _. refl) (λ _. refl) c h
stays_outside d Plain c o h = each Outside class.Quote RowStart CrSeen FieldStart Plain Plain Plain Plain (λ _. refl) (λ _. refl) (λ _. refl) (λ _. refl) (λ _. refl) (λ _. refl) (λ _. refl) c h
stays_outside d Quoted c o h = absurd (let no : ⊥ = cc in no)
stays_outside d Escape c o h = absurd (let no : ⊥ = cc in no)
stays_outside d QuoteSeen c o h = absurd (let no : ⊥ = cc in no)
stays_outside d Broken c o h = absurd (let no : ⊥ = cc in no)
stays_outside d CrSeen c o h = each Outside class.Quote RowStart CrSeen FieldStart Quoted Plain Comment Plain (λ _. refl) (λ _. refl) (λ _. refl) quote_out (λ _. refl) (λ _. refl) (λ _. refl) c h
stays_outside d Comment c o h = each Outside class.Quote RowStart CrSeen Comment Comment Comment Comment Comment (λ _. refl) (λ _. refl) (λ _. refl) (λ _. refl) (λ _. refl) (λ _. refl) (λ _. refl) c h

-- outside quotes an escape leads where any other byte does
escape_next : (d : Marks) (s : State) → is_outside s ≡ true → next d s class.Escape ≡ next d s class.Other
escape_next d RowStart o = refl
escape_next d FieldStart o = refl
escape_next d Plain o = refl
escape_next d Quoted o = absurd (let no : ⊥ = cc in no)
escape_next d Escape o = absurd (let no : ⊥ = cc in no)
escape_next d QuoteSeen o = absurd (let no : ⊥ = cc in no)
escape_next d Broken o = absurd (let no : ⊥ = cc in no)
escape_next d CrSeen o = refl
escape_next d Comment o = refl

outside_next : (d : Marks) (s : State) (c : Class) → is_outside s ≡ true → next d s c ≡ next d s (outside_class c)
outside_next d s class.Lf o = refl
outside_next d s class.Cr o = refl
outside_next d s class.Delim o = refl
outside_next d s class.Quote o = refl
outside_next d s class.Escape o = escape_next d s o
outside_next d s class.Comment o = refl
outside_next d s class.Other o = refl

-- what a dialect's quoting is doesn't matter there
no_matter : (d e : Marks) (s : State) (c : Class) → is_outside s ≡ true → next d s c ≡ next e s c
no_matter d e RowStart c o = refl
no_matter d e FieldStart c o = refl
no_matter d e Plain c o = refl
no_matter d e Quoted c o = refl
no_matter d e Escape c o = refl
no_matter d e QuoteSeen c o = absurd (let no : ⊥ = cc in no)
no_matter d e Broken c o = refl
no_matter d e CrSeen c o = refl
no_matter d e Comment c o = refl

escape_begins : (s : State) → begins_row s class.Escape ≡ begins_row s class.Other
escape_begins RowStart = refl
escape_begins FieldStart = refl
escape_begins Plain = refl
escape_begins Quoted = refl
escape_begins Escape = refl
escape_begins QuoteSeen = refl
escape_begins Broken = refl
escape_begins CrSeen = refl
escape_begins Comment = refl

outside_begins : (s : State) (c : Class) → begins_row s c ≡ begins_row s (outside_class c)
outside_begins s class.Lf = refl
outside_begins s class.Cr = refl
outside_begins s class.Delim = refl
outside_begins s class.Quote = refl
outside_begins s class.Escape = escape_begins s
outside_begins s class.Comment = refl
outside_begins s class.Other = refl

outside_ends : (s : State) (c : Class) → ends_row s c ≡ ends_row s (outside_class c)
outside_ends s class.Lf = refl
outside_ends s class.Cr = refl
outside_ends s class.Delim = refl
outside_ends s class.Quote = refl
outside_ends s class.Escape = refl
outside_ends s class.Comment = refl
outside_ends s class.Other = refl

-- the class of a byte that isn't the quote, by what it is besides; an escape is no comment byte
unquoted_class : (lf cr delim escape comment : Bool) → (escape ≡ true → comment ≡ false) →
    outside_class (class_by lf cr delim false escape comment) ≡ class_by lf cr delim false false comment
unquoted_class true cr delim escape comment apart = refl
unquoted_class false true delim escape comment apart = refl
unquoted_class false false true escape comment apart = refl
unquoted_class false false false true comment apart = λ i. cond (sym (apart refl) i) class.Comment class.Other
unquoted_class false false false false true apart = refl
unquoted_class false false false false false apart = refl

never_quote : (lf cr delim escape comment : Bool) → same_class (class_by lf cr delim false escape comment) class.Quote ≡ false
never_quote true cr delim escape comment = refl
never_quote false true delim escape comment = refl
never_quote false false true escape comment = refl
never_quote false false false true comment = refl
never_quote false false false false true = refl
never_quote false false false false false = refl

-- a dialect's escape isn't its comment byte
marks_apart : (escape comment : Option ℕ) (A B C : ℕ → Type 0) (b : ℕ) → IfSome comment (λ k. A k × B k × C k × IfSome escape (λ e. k ≢ e)) →
    is_byte escape b ≡ true → is_byte comment b ≡ false
marks_apart escape None A B C b h is = refl
marks_apart None (Some k) A B C b h is = absurd (let no : ⊥ = cc in no)
marks_apart (Some e) (Some k) A B C b h is = ne_eqb k b (λ same. h.3 (same ∙ sym (eqb-true e b is)))

module _ (d : Marks) (b : ℕ) (sound : IsDialect d) (none : is_quote d b ≡ false) where
  class_outside : outside_class (class_of d b) ≡ class_by (b == 10) (b == 13) (b == d.delim) false false (is_byte d.comment b)
  class_outside =
      (λ i. outside_class (class_by (b == 10) (b == 13) (b == d.delim) (none i) (is_byte d.escape b) (is_byte d.comment b)))
      ∙ unquoted_class (b == 10) (b == 13) (b == d.delim) (is_byte d.escape b) (is_byte d.comment b)
      (marks_apart d.escape d.comment IsMark (λ k. k ≢ d.delim) (λ k. IfSome d.quote (λ q. k ≢ q)) b sound.comment)

  no_quote_class : same_class (class_of d b) class.Quote ≡ false
  no_quote_class =
      (λ i. same_class (class_by (b == 10) (b == 13) (b == d.delim) (none i) (is_byte d.escape b) (is_byte d.comment b)) class.Quote)
      ∙ never_quote (b == 10) (b == 13) (b == d.delim) (is_byte d.escape b) (is_byte d.comment b)

pub unquoted_alike : (d e : Marks) (b : ℕ) → IsDialect d → IsDialect e → (b == d.delim) ≡ (b == e.delim) → d.comment ≡ e.comment →
    is_quote d b ≡ false → is_quote e b ≡ false → ReadsAlike d e is_outside b
unquoted_alike d e b sound other delim comment none none_other =
    let same : outside_class (class_of d b) ≡ outside_class (class_of e b) =
    class_outside d b sound none ∙ (λ i. class_by (b == 10) (b == 13) (delim i) false false (is_byte (comment i) b)) ∙ sym (class_outside e b other none_other) in
    record {
      steps = λ s outside. record {
        to = outside_next d s (class_of d b) outside ∙ ap (next d s) same ∙ sym (outside_next d s (class_of e b) outside) ∙ no_matter d e s (class_of e b) outside;
        on = stays_outside d s (class_of d b) outside (no_quote_class d b sound none);
        begins = outside_begins s (class_of d b) ∙ ap (begins_row s) same ∙ sym (outside_begins s (class_of e b));
        ends = outside_ends s (class_of d b) ∙ ap (ends_row s) same ∙ sym (outside_ends s (class_of e b));
      };
      quote = none ∙ sym none_other;
      unescapes = λ is. absurd (let no : ⊥ = cc in no);
    }
