-- Which side of the quotes a byte leads to.
use Rattle.std.proofs.Common.{◌≡◌, ℕ, Bool, true, false, not, cond, refl, sym, ◌∙◌, ap}
use Rattle.std.specs.Prelude.{Option, Some, None, ◌==◌}
use Rattle.std.proofs.lemmas.Bool.{eqb-true}
use Rattle.byte_classes.specs.declared.class.Class.{Class}
use Rattle.byte_classes.specs.declared.class.Class.TheVariants as class
use Rattle.byte_classes.specs.Dialect.{Marks, is_byte, is_same_byte}
use Rattle.byte_classes.specs.Class.{class_of, same_class}
use Rattle.quote_automaton.specs.declared.state.State.{State}
use Rattle.quote_automaton.specs.declared.state.State.TheVariants.{RowStart, FieldStart, Plain, Quoted, Escape, QuoteSeen, Broken, CrSeen, Comment}
use Rattle.quote_automaton.specs.Automaton.{by_class, next, is_inside_quotes, doubles_quotes}
use Rattle.row_fields.proofs.FieldReading.{IsQuotedWell}
use Rattle.row_fields.proofs.TextQuotes.{is_proper_state}

-- ---- tests

pub quote_is : (c : Class) → same_class c class.Quote ≡ true → c ≡ class.Quote
quote_is class.Lf h = absurd (let no : ⊥ = cc in no)
quote_is class.Cr h = absurd (let no : ⊥ = cc in no)
quote_is class.Delim h = absurd (let no : ⊥ = cc in no)
quote_is class.Quote h = refl
quote_is class.Escape h = absurd (let no : ⊥ = cc in no)
quote_is class.Comment h = absurd (let no : ⊥ = cc in no)
quote_is class.Other h = absurd (let no : ⊥ = cc in no)

pub other_is : (c : Class) → same_class c class.Other ≡ true → c ≡ class.Other
other_is class.Lf h = absurd (let no : ⊥ = cc in no)
other_is class.Cr h = absurd (let no : ⊥ = cc in no)
other_is class.Delim h = absurd (let no : ⊥ = cc in no)
other_is class.Quote h = absurd (let no : ⊥ = cc in no)
other_is class.Escape h = absurd (let no : ⊥ = cc in no)
other_is class.Comment h = absurd (let no : ⊥ = cc in no)
other_is class.Other h = refl

-- the quote is its own escape
pub doubling_mark : (o p : Option ℕ) → is_same_byte o p ≡ true → (q : ℕ) × (o ≡ Some q) × (p ≡ Some q)
doubling_mark None p h = absurd (let no : ⊥ = cc in no)
doubling_mark (Some a) None h = absurd (let no : ⊥ = cc in no)
doubling_mark (Some a) (Some b) h = (a, refl, ap Some (eqb-true b a h))

escape_by_tests : (lf cr delim quote comment : Bool) →
    same_class (cond lf class.Lf (cond cr class.Cr (cond delim class.Delim (cond quote class.Quote (cond quote class.Escape (cond comment class.Comment class.Other)))))) class.Escape ≡ false
escape_by_tests true cr delim quote comment = refl
escape_by_tests false true delim quote comment = refl
escape_by_tests false false true quote comment = refl
escape_by_tests false false false true comment = refl
escape_by_tests false false false false true = refl
escape_by_tests false false false false false = refl

-- then no byte has the class of a distinct escape
pub no_escape : (d : Marks) (q b : ℕ) → d.quote ≡ Some q → d.escape ≡ Some q → same_class (class_of d b) class.Escape ≡ false
no_escape d q b quote escape =
    (λ i. same_class (cond (b == 10) class.Lf (cond (b == 13) class.Cr (cond (b == d.delim) class.Delim (cond (is_byte (quote i) b) class.Quote (cond (is_byte (escape i) b) class.Escape (cond (is_byte d.comment b) class.Comment class.Other)))))) class.Escape)
    ∙ escape_by_tests (b == 10) (b == 13) (b == d.delim) (q == b) (is_byte d.comment b)

-- ---- what a byte does to the side of the quotes

-- a quote changes the side, and no other byte does
pub inside_next : (d : Marks) (s : State) (c : Class) → doubles_quotes d ≡ true → is_proper_state s ≡ true → is_proper_state (next d s c) ≡ true → IsQuotedWell d s c →
    is_inside_quotes (next d s c) ≡ cond (same_class c class.Quote) (not (is_inside_quotes s)) (is_inside_quotes s)
inside_next d RowStart class.Lf doubles ps pn w = refl
inside_next d RowStart class.Cr doubles ps pn w = refl
inside_next d RowStart class.Delim doubles ps pn w = refl
inside_next d RowStart class.Quote doubles ps pn w = refl
inside_next d RowStart class.Escape doubles ps pn w = refl
inside_next d RowStart class.Comment doubles ps pn w = refl
inside_next d RowStart class.Other doubles ps pn w = refl
inside_next d FieldStart class.Lf doubles ps pn w = refl
inside_next d FieldStart class.Cr doubles ps pn w = refl
inside_next d FieldStart class.Delim doubles ps pn w = refl
inside_next d FieldStart class.Quote doubles ps pn w = refl
inside_next d FieldStart class.Escape doubles ps pn w = refl
inside_next d FieldStart class.Comment doubles ps pn w = refl
inside_next d FieldStart class.Other doubles ps pn w = refl
inside_next d Plain class.Lf doubles ps pn w = refl
inside_next d Plain class.Cr doubles ps pn w = refl
inside_next d Plain class.Delim doubles ps pn w = refl
inside_next d Plain class.Quote doubles ps pn w = absurd (let bare : true ≡ false = w.not_bare in let no : ⊥ = cc in no)
inside_next d Plain class.Escape doubles ps pn w = refl
inside_next d Plain class.Comment doubles ps pn w = refl
inside_next d Plain class.Other doubles ps pn w = refl
inside_next d Quoted class.Lf doubles ps pn w = refl
inside_next d Quoted class.Cr doubles ps pn w = refl
inside_next d Quoted class.Delim doubles ps pn w = refl
inside_next d Quoted class.Quote doubles ps pn w = refl
inside_next d Quoted class.Escape doubles ps pn w = absurd (let no : ⊥ = cc in no)
inside_next d Quoted class.Comment doubles ps pn w = refl
inside_next d Quoted class.Other doubles ps pn w = refl
inside_next d Escape class.Lf doubles ps pn w = absurd (let no : ⊥ = cc in no)
inside_next d Escape class.Cr doubles ps pn w = absurd (let no : ⊥ = cc in no)
inside_next d Escape class.Delim doubles ps pn w = absurd (let no : ⊥ = cc in no)
inside_next d Escape class.Quote doubles ps pn w = absurd (let no : ⊥ = cc in no)
inside_next d Escape class.Escape doubles ps pn w = absurd (let no : ⊥ = cc in no)
inside_next d Escape class.Comment doubles ps pn w = absurd (let no : ⊥ = cc in no)
inside_next d Escape class.Other doubles ps pn w = absurd (let no : ⊥ = cc in no)
inside_next d QuoteSeen class.Lf doubles ps pn w = refl
inside_next d QuoteSeen class.Cr doubles ps pn w = refl
inside_next d QuoteSeen class.Delim doubles ps pn w = refl
inside_next d QuoteSeen class.Quote doubles ps pn w = ap (λ b. is_inside_quotes (cond b Quoted Broken)) doubles
inside_next d QuoteSeen class.Escape doubles ps pn w = absurd (let no : ⊥ = cc in no)
inside_next d QuoteSeen class.Comment doubles ps pn w = absurd (let no : ⊥ = cc in no)
inside_next d QuoteSeen class.Other doubles ps pn w = absurd (let no : ⊥ = cc in no)
inside_next d Broken class.Lf doubles ps pn w = absurd (let no : ⊥ = cc in no)
inside_next d Broken class.Cr doubles ps pn w = absurd (let no : ⊥ = cc in no)
inside_next d Broken class.Delim doubles ps pn w = absurd (let no : ⊥ = cc in no)
inside_next d Broken class.Quote doubles ps pn w = absurd (let no : ⊥ = cc in no)
inside_next d Broken class.Escape doubles ps pn w = absurd (let no : ⊥ = cc in no)
inside_next d Broken class.Comment doubles ps pn w = absurd (let no : ⊥ = cc in no)
inside_next d Broken class.Other doubles ps pn w = absurd (let no : ⊥ = cc in no)
inside_next d CrSeen class.Lf doubles ps pn w = refl
inside_next d CrSeen class.Cr doubles ps pn w = refl
inside_next d CrSeen class.Delim doubles ps pn w = refl
inside_next d CrSeen class.Quote doubles ps pn w = refl
inside_next d CrSeen class.Escape doubles ps pn w = refl
inside_next d CrSeen class.Comment doubles ps pn w = refl
inside_next d CrSeen class.Other doubles ps pn w = refl
inside_next d Comment c doubles ps pn w = absurd (let no : ⊥ = cc in no)

-- the state after a byte is known from its class and its side
pub opening_next : (d : Marks) (s : State) (c : Class) → doubles_quotes d ≡ true → is_proper_state s ≡ true → is_proper_state (next d s c) ≡ true → IsQuotedWell d s c →
    next d s c ≡ cond (is_inside_quotes (next d s c)) (by_class Quoted Quoted Quoted Quoted Escape Quoted Quoted c) (by_class RowStart CrSeen FieldStart QuoteSeen Plain Plain Plain c)
opening_next d RowStart class.Lf doubles ps pn w = refl
opening_next d RowStart class.Cr doubles ps pn w = refl
opening_next d RowStart class.Delim doubles ps pn w = refl
opening_next d RowStart class.Quote doubles ps pn w = refl
opening_next d RowStart class.Escape doubles ps pn w = refl
opening_next d RowStart class.Comment doubles ps pn w = absurd (let no : ⊥ = cc in no)
opening_next d RowStart class.Other doubles ps pn w = refl
opening_next d FieldStart class.Lf doubles ps pn w = refl
opening_next d FieldStart class.Cr doubles ps pn w = refl
opening_next d FieldStart class.Delim doubles ps pn w = refl
opening_next d FieldStart class.Quote doubles ps pn w = refl
opening_next d FieldStart class.Escape doubles ps pn w = refl
opening_next d FieldStart class.Comment doubles ps pn w = refl
opening_next d FieldStart class.Other doubles ps pn w = refl
opening_next d Plain class.Lf doubles ps pn w = refl
opening_next d Plain class.Cr doubles ps pn w = refl
opening_next d Plain class.Delim doubles ps pn w = refl
opening_next d Plain class.Quote doubles ps pn w = absurd (let bare : true ≡ false = w.not_bare in let no : ⊥ = cc in no)
opening_next d Plain class.Escape doubles ps pn w = refl
opening_next d Plain class.Comment doubles ps pn w = refl
opening_next d Plain class.Other doubles ps pn w = refl
opening_next d Quoted class.Lf doubles ps pn w = refl
opening_next d Quoted class.Cr doubles ps pn w = refl
opening_next d Quoted class.Delim doubles ps pn w = refl
opening_next d Quoted class.Quote doubles ps pn w = refl
opening_next d Quoted class.Escape doubles ps pn w = absurd (let no : ⊥ = cc in no)
opening_next d Quoted class.Comment doubles ps pn w = refl
opening_next d Quoted class.Other doubles ps pn w = refl
opening_next d Escape class.Lf doubles ps pn w = absurd (let no : ⊥ = cc in no)
opening_next d Escape class.Cr doubles ps pn w = absurd (let no : ⊥ = cc in no)
opening_next d Escape class.Delim doubles ps pn w = absurd (let no : ⊥ = cc in no)
opening_next d Escape class.Quote doubles ps pn w = absurd (let no : ⊥ = cc in no)
opening_next d Escape class.Escape doubles ps pn w = absurd (let no : ⊥ = cc in no)
opening_next d Escape class.Comment doubles ps pn w = absurd (let no : ⊥ = cc in no)
opening_next d Escape class.Other doubles ps pn w = absurd (let no : ⊥ = cc in no)
opening_next d QuoteSeen class.Lf doubles ps pn w = refl
opening_next d QuoteSeen class.Cr doubles ps pn w = refl
opening_next d QuoteSeen class.Delim doubles ps pn w = refl
opening_next d QuoteSeen class.Quote doubles ps pn w = ap (λ b. cond b Quoted Broken) doubles ∙ ap (λ b. cond (is_inside_quotes (cond b Quoted Broken)) Quoted QuoteSeen) (sym doubles)
opening_next d QuoteSeen class.Escape doubles ps pn w = absurd (let no : ⊥ = cc in no)
opening_next d QuoteSeen class.Comment doubles ps pn w = absurd (let no : ⊥ = cc in no)
opening_next d QuoteSeen class.Other doubles ps pn w = absurd (let no : ⊥ = cc in no)
opening_next d Broken class.Lf doubles ps pn w = absurd (let no : ⊥ = cc in no)
opening_next d Broken class.Cr doubles ps pn w = absurd (let no : ⊥ = cc in no)
opening_next d Broken class.Delim doubles ps pn w = absurd (let no : ⊥ = cc in no)
opening_next d Broken class.Quote doubles ps pn w = absurd (let no : ⊥ = cc in no)
opening_next d Broken class.Escape doubles ps pn w = absurd (let no : ⊥ = cc in no)
opening_next d Broken class.Comment doubles ps pn w = absurd (let no : ⊥ = cc in no)
opening_next d Broken class.Other doubles ps pn w = absurd (let no : ⊥ = cc in no)
opening_next d CrSeen class.Lf doubles ps pn w = refl
opening_next d CrSeen class.Cr doubles ps pn w = refl
opening_next d CrSeen class.Delim doubles ps pn w = refl
opening_next d CrSeen class.Quote doubles ps pn w = refl
opening_next d CrSeen class.Escape doubles ps pn w = refl
opening_next d CrSeen class.Comment doubles ps pn w = absurd (let no : ⊥ = cc in no)
opening_next d CrSeen class.Other doubles ps pn w = refl
opening_next d Comment c doubles ps pn w = absurd (let no : ⊥ = cc in no)

-- after a quote and before an ordinary byte stands the inside
pub after_quote : (d : Marks) (s : State) → doubles_quotes d ≡ true → is_proper_state s ≡ true → IsQuotedWell d s class.Quote → is_proper_state (next d (next d s class.Quote) class.Other) ≡ true →
    is_inside_quotes (next d s class.Quote) ≡ true
after_quote d RowStart doubles ps w pn = refl
after_quote d FieldStart doubles ps w pn = refl
after_quote d Plain doubles ps w pn = absurd (let bare : true ≡ false = w.not_bare in let no : ⊥ = cc in no)
after_quote d Quoted doubles ps w pn = absurd (let no : ⊥ = cc in no)
after_quote d Escape doubles ps w pn = absurd (let no : ⊥ = cc in no)
after_quote d QuoteSeen doubles ps w pn = ap (λ b. is_inside_quotes (cond b Quoted Broken)) doubles
after_quote d Broken doubles ps w pn = absurd (let no : ⊥ = cc in no)
after_quote d CrSeen doubles ps w pn = refl
after_quote d Comment doubles ps w pn = absurd (let no : ⊥ = cc in no)

-- and after an ordinary byte and before a quote
pub after_other : (d : Marks) (s : State) → is_proper_state s ≡ true → is_proper_state (next d s class.Other) ≡ true → IsQuotedWell d (next d s class.Other) class.Quote →
    is_inside_quotes (next d s class.Other) ≡ true
after_other d RowStart ps pn w = absurd (let bare : true ≡ false = w.not_bare in let no : ⊥ = cc in no)
after_other d FieldStart ps pn w = absurd (let bare : true ≡ false = w.not_bare in let no : ⊥ = cc in no)
after_other d Plain ps pn w = absurd (let bare : true ≡ false = w.not_bare in let no : ⊥ = cc in no)
after_other d Quoted ps pn w = refl
after_other d Escape ps pn w = absurd (let no : ⊥ = cc in no)
after_other d QuoteSeen ps pn w = absurd (let no : ⊥ = cc in no)
after_other d Broken ps pn w = absurd (let no : ⊥ = cc in no)
after_other d CrSeen ps pn w = absurd (let bare : true ≡ false = w.not_bare in let no : ⊥ = cc in no)
after_other d Comment ps pn w = absurd (let no : ⊥ = cc in no)
