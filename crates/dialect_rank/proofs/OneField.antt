-- A row without the delimiter is one field.
use Rattle.std.proofs.Common.{◌≡◌, ℕ, Bool, true, false, cond, List, [], ◌∷◌, length, refl, ◌∙◌, ap}
use Rattle.std.specs.Prelude.{◌==◌, All}
use Rattle.std.proofs.lemmas.List.Elements.{All-head, All-tail}
use Rattle.byte_classes.specs.declared.class.Class.{Class}
use Rattle.byte_classes.specs.declared.class.Class.TheVariants as class
use Rattle.byte_classes.specs.Class.{class_of, same_class}
use Rattle.byte_classes.specs.Dialect.{Marks, is_byte}
use Rattle.quote_automaton.specs.declared.state.State.{State}
use Rattle.quote_automaton.specs.declared.state.State.TheVariants.{RowStart, FieldStart, Plain, Quoted, Escape, QuoteSeen, Broken, CrSeen, Comment}
use Rattle.quote_automaton.specs.Automaton.{by_class, doubles_quotes, next, same_state, step}
use Rattle.row_fields.specs.Fields.{is_separator, put_first, raw_fields}
use Rattle.row_fields.proofs.FieldCounts.{length-fields_from}
use Rattle.dialect_rank.specs.Absent.{is_absent}
use Rattle.dialect_rank.specs.Score.{field_count}
use Rattle.dialect_rank.proofs.AlikeBytes.{class_by, each}
use Rattle.dialect_rank.proofs.QuoteSearch.{absent_each}

-- no field begins in this state
abbrev GoesOn : State → Type 0
GoesOn s = same_state s FieldStart ≡ false

impossible : same_class class.Delim class.Delim ≡ false → GoesOn FieldStart
impossible h = absurd (let no : ⊥ = cc in no)

goes_on : (d : Marks) (s : State) (c : Class) → same_class c class.Delim ≡ false → GoesOn (next d s c)
goes_on d RowStart c h = each GoesOn class.Delim RowStart CrSeen FieldStart Quoted Plain Comment Plain (λ _. refl) (λ _. refl) impossible (λ _. refl) (λ _. refl) (λ _. refl) (λ _. refl) c h
goes_on d FieldStart c h = each GoesOn class.Delim RowStart CrSeen FieldStart Quoted Plain Plain Plain (λ _. refl) (λ _. refl) impossible (λ _. refl) (λ _. refl) (λ _. refl) (λ _. refl) c h
goes_on d Plain c h = each GoesOn class.Delim RowStart CrSeen FieldStart Plain Plain Plain Plain (λ _. refl) (λ _. refl) impossible (λ _. refl) (λ _. refl) (λ _. refl) (λ _. refl) c h
goes_on d Quoted c h = each GoesOn class.Delim Quoted Quoted Quoted QuoteSeen Escape Quoted Quoted (λ _. refl) (λ _. refl) (λ _. refl) (λ _. refl) (λ _. refl) (λ _. refl) (λ _. refl) c h
goes_on d Escape c h = each GoesOn class.Delim Quoted Quoted Quoted Quoted Quoted Quoted Quoted (λ _. refl) (λ _. refl) (λ _. refl) (λ _. refl) (λ _. refl) (λ _. refl) (λ _. refl) c h
goes_on d QuoteSeen c h = by_doubling (doubles_quotes d) where
  by_doubling : (doubles : Bool) → GoesOn (by_class RowStart CrSeen FieldStart (cond doubles Quoted Broken) Broken Broken Broken c)
  by_doubling true = each GoesOn class.Delim RowStart CrSeen FieldStart Quoted Broken Broken Broken (λ _. refl) (λ _. refl) impossible (λ _. refl) (λ _. refl) (λ _. refl) (λ _. refl) c h
  by_doubling false = each GoesOn class.Delim RowStart CrSeen FieldStart Broken Broken Broken Broken (λ _. refl) (λ _. refl) impossible (λ _. refl) (λ _. refl) (λ _. refl) (λ _. refl) c h
goes_on d Broken c h = each GoesOn class.Delim RowStart CrSeen Broken Broken Broken Broken Broken (λ _. refl) (λ _. refl) (λ _. refl) (λ _. refl) (λ _. refl) (λ _. refl) (λ _. refl) c h
goes_on d CrSeen c h = each GoesOn class.Delim RowStart CrSeen FieldStart Quoted Plain Comment Plain (λ _. refl) (λ _. refl) impossible (λ _. refl) (λ _. refl) (λ _. refl) (λ _. refl) c h
goes_on d Comment c h = each GoesOn class.Delim RowStart CrSeen Comment Comment Comment Comment Comment (λ _. refl) (λ _. refl) (λ _. refl) (λ _. refl) (λ _. refl) (λ _. refl) (λ _. refl) c h

never_delim : (lf cr quote escape comment : Bool) → same_class (class_by lf cr false quote escape comment) class.Delim ≡ false
never_delim true cr quote escape comment = refl
never_delim false true quote escape comment = refl
never_delim false false true escape comment = refl
never_delim false false false true comment = refl
never_delim false false false false true = refl
never_delim false false false false false = refl

joins : (d : Marks) (s : State) (b : ℕ) → (b == d.delim) ≡ false → is_separator d s b ≡ false
joins d s b other = goes_on d s (class_of d b)
    ((λ i. same_class (class_by (b == 10) (b == 13) (other i) (is_byte d.quote b) (is_byte d.escape b) (is_byte d.comment b)) class.Delim)
    ∙ never_delim (b == 10) (b == 13) (is_byte d.quote b) (is_byte d.escape b) (is_byte d.comment b))

put_one : (b : ℕ) (raws : List (List ℕ)) → length raws ≡ 1 → length (put_first false b raws) ≡ 1
put_one b [] h = refl
put_one b (raw ∷ raws) h = h

one_raw : (d : Marks) (s : State) (row : List ℕ) → All (λ b. (b == d.delim) ≡ false) row → length (raw_fields d s row) ≡ 1
one_raw d s [] all = refl
one_raw d s (b ∷ row) all =
    let Other : ℕ → Type 0 = λ b. (b == d.delim) ≡ false in
    ap (λ ends. length (put_first ends b (raw_fields d (step d s b) row))) (joins d s b (All-head Other b row all))
    ∙ put_one b (raw_fields d (step d s b) row) (one_raw d (step d s b) row (All-tail Other b row all))

pub undelimited_is_one_field : (d : Marks) (row : List ℕ) → is_absent d.delim row ≡ true → field_count d row ≡ 1
undelimited_is_one_field d row none = length-fields_from d 0 (raw_fields d RowStart row) ∙ one_raw d RowStart row (absent_each row d.delim none)
