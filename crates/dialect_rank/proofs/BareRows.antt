-- A row in which no quote stands has one field more than delimiters.
use Rattle.std.proofs.Common.{◌≡◌, ℕ, zero, suc, ◌+◌, ◌-◌, ◌<◌, ◌≤◌, Bool, true, false, not, ◌&&◌, cond, List, [], ◌∷◌, ◌++◌, length, take, drop, get_or, refl, sym, ◌∙◌, ap, arith, take-append-drop}
use Rattle.std.specs.Prelude.{◌==◌, None, Some, count_by, option_map}
use Rattle.std.specs.Option.{is_none}
use Rattle.std.proofs.lemmas.Bool.{or_parts}
use Rattle.std.proofs.lemmas.List.{drop_more, get_or_default, length-take}
use Rattle.std.proofs.lemmas.List.Sums.{sum_by-cons}
use Rattle.byte_classes.specs.declared.class.Class.{Class}
use Rattle.byte_classes.specs.declared.class.Class.TheVariants as class
use Rattle.byte_classes.specs.Class.{class_of, is_line_end}
use Rattle.byte_classes.specs.Dialect.{Marks, is_byte}
use Rattle.byte_classes.specs.Fault.{is_line_end_byte}
use Rattle.byte_classes.proofs.PlaceLaws.{first_place-within}
use Rattle.quote_automaton.specs.declared.state.State.{State}
use Rattle.quote_automaton.specs.declared.state.State.TheVariants.{RowStart, FieldStart, Plain, Broken}
use Rattle.quote_automaton.specs.Automaton.{is_inside_quotes, next, same_state, state_after, step}
use Rattle.quote_automaton.specs.Rows.{begins_comment, ends_row, is_row_end, row_at, row_end}
use Rattle.quote_automaton.specs.RowEnd.{row_len}
use Rattle.quote_automaton.proofs.RowLaws.{row_end-cons_zero}
use Rattle.row_fields.specs.declared.flaw.Flaw.{Flaw}
use Rattle.row_fields.specs.Fields.{flaw_at, is_quote, is_separator, last_at, put_first, raw_fields, fields}
use Rattle.row_fields.specs.Reading.{broken_in}
use Rattle.row_fields.specs.Split.{row_from}
use Rattle.row_fields.proofs.Leading.{broken_in-cons, line_end_class}
use Rattle.row_fields.proofs.FieldCounts.{length-fields_from}
use Rattle.row_fields.proofs.RowSteps.{broken_in-start, inside-start, raw_fields-start, row_at-start}
use Rattle.dialect_rank.specs.RowCount.{HasCount}
use Rattle.dialect_rank.specs.Score.{closed_fields}
use Rattle.dialect_rank.proofs.Outranked.{none_closed}

-- neither a line end nor the quote
pub record IsBare (d : Marks) (b : ℕ) : Type 0 where
  pub line : is_line_end_byte b ≡ false
  pub quote : is_byte d.quote b ≡ false

abbrev pub AllBare : Marks → List ℕ → Type 0
AllBare d xs = (k : ℕ) → k < length xs → IsBare d (get_or xs k 0)

behind : (d : Marks) (b : ℕ) (xs : List ℕ) → AllBare d (b ∷ xs) → AllBare d xs
behind d b xs all = λ k lt. all (suc k) (omega (arith, lt))

-- ---- one byte

abbrev class_by : Bool → Bool → Bool → Class
class_by delim escape comment = cond delim class.Delim (cond escape class.Escape (cond comment class.Comment class.Other))

bare_class : (d : Marks) (b : ℕ) → IsBare d b → class_of d b ≡ class_by (b == d.delim) (is_byte d.escape b) (is_byte d.comment b)
bare_class d b bare =
    let parts = or_parts (b == 10) (b == 13) bare.line in
    λ i. cond (parts.0 i) class.Lf (cond (parts.1 i) class.Cr (cond (b == d.delim) class.Delim
    (cond (bare.quote i) class.Quote (cond (is_byte d.escape b) class.Escape (cond (is_byte d.comment b) class.Comment class.Other)))))

-- the state at the start of a field, and in one
abbrev state : Bool → State
state true = FieldStart
state false = Plain

moves : (d : Marks) (first delim escape comment : Bool) → next d (state first) (class_by delim escape comment) ≡ state delim
moves d true true escape comment = refl
moves d true false true comment = refl
moves d true false false true = refl
moves d true false false false = refl
moves d false true escape comment = refl
moves d false false true comment = refl
moves d false false false true = refl
moves d false false false false = refl

no_end : (s : State) (delim escape comment : Bool) → ends_row s (class_by delim escape comment) ≡ false
no_end s true escape comment = refl
no_end s false true comment = refl
no_end s false false true = refl
no_end s false false false = refl

is_first : (first : Bool) → same_state (state first) FieldStart ≡ first
is_first true = refl
is_first false = refl

not_broken : (first : Bool) → same_state (state first) Broken ≡ false
not_broken true = refl
not_broken false = refl

not_inside : (first : Bool) → is_inside_quotes (state first) ≡ false
not_inside true = refl
not_inside false = refl

line_ends_row : (first : Bool) (c : Class) → ends_row (state first) c ≡ ends_row FieldStart c
line_ends_row true c = refl
line_ends_row false c = refl

ends_here : (c : Class) → is_line_end c ≡ true → ends_row FieldStart c ≡ true
ends_here c h = ap (λ t. t && not (is_inside_quotes FieldStart)) h

module _ (d : Marks) (first : Bool) (b : ℕ) (bare : IsBare d b) where
  step_is : step d (state first) b ≡ state (b == d.delim)
  step_is = ap (next d (state first)) (bare_class d b bare) ∙ moves d first (b == d.delim) (is_byte d.escape b) (is_byte d.comment b)

  separates : is_separator d (state first) b ≡ (b == d.delim)
  separates = ap (λ s. same_state s FieldStart) step_is ∙ is_first (b == d.delim)

  goes_on : ends_row (state first) (class_of d b) ≡ false
  goes_on = ap (ends_row (state first)) (bare_class d b bare) ∙ no_end (state first) (b == d.delim) (is_byte d.escape b) (is_byte d.comment b)

-- ---- all bytes

put_long : (ends : Bool) (b : ℕ) (raws : List (List ℕ)) (n : ℕ) → length raws ≡ n + 1 → length (put_first ends b raws) ≡ (cond {A = ℕ} ends 1 0 + n) + 1
put_long true b raws n is = omega (arith, is)
put_long false b [] n is = absurd (let no : ⊥ = omega (arith, is) in no)
put_long false b (raw ∷ raws) n is = omega (arith, is)

abbrev delims : Marks → List ℕ → ℕ
delims d xs = count_by (λ b. b == d.delim) xs

raws_many : (d : Marks) (first : Bool) (xs : List ℕ) → AllBare d xs → length (raw_fields d (state first) xs) ≡ delims d xs + 1
raws_many d first [] all = refl
raws_many d first (b ∷ xs) all =
    let bare : IsBare d b = all 0 (omega arith) in
    (λ i. length (put_first (separates d first b bare i) b (raw_fields d (step_is d first b bare i) xs)))
    ∙ put_long (b == d.delim) b (raw_fields d (state (b == d.delim)) xs) (delims d xs) (raws_many d (b == d.delim) xs (behind d b xs all))
    ∙ ap (λ n. n + 1) (sym (sum_by-cons (λ b. cond {A = ℕ} (b == d.delim) 1 0) b xs))

end_at : (d : Marks) (first : Bool) (xs : List ℕ) (c : ℕ) (rest : List ℕ) → AllBare d xs → is_line_end_byte c ≡ true → row_end d (state first) (xs ++ c ∷ rest) 0 ≡ length xs
end_at d first [] c rest all ends =
    row_end-cons_zero d (state first) c rest
    ∙ ap (λ t. cond t 0 (suc (row_end d (step d (state first) c) rest 0))) (line_ends_row first (class_of d c) ∙ ends_here (class_of d c) (line_end_class d c ∙ ends))
end_at d first (b ∷ xs) c rest all ends =
    let bare : IsBare d b = all 0 (omega arith) in
    row_end-cons_zero d (state first) b (xs ++ c ∷ rest)
    ∙ (λ i. cond (goes_on d first b bare i) 0 (suc (row_end d (step_is d first b bare i) (xs ++ c ∷ rest) 0)))
    ∙ ap suc (end_at d (b == d.delim) xs c rest (behind d b xs all) ends)

unbroken : (d : Marks) (first : Bool) (xs : List ℕ) → AllBare d xs → broken_in d (state first) xs ≡ None
unbroken d first [] all = refl
unbroken d first (b ∷ xs) all =
    let bare : IsBare d b = all 0 (omega arith) in
    broken_in-cons d (state first) b xs
    ∙ (λ i. cond (same_state (step_is d first b bare i) Broken) (Some 0) (option_map suc (broken_in d (step_is d first b bare i) xs)))
    ∙ (λ i. cond (not_broken (b == d.delim) i) (Some 0) (option_map suc (unbroken d (b == d.delim) xs (behind d b xs all) i)))

outside : (d : Marks) (first : Bool) (xs : List ℕ) → AllBare d xs → is_inside_quotes (state_after d (state first) xs) ≡ false
outside d first [] all = not_inside first
outside d first (b ∷ xs) all =
    ap (λ s. is_inside_quotes (state_after d s xs)) (step_is d first b (all 0 (omega arith))) ∙ outside d (b == d.delim) xs (behind d b xs all)

-- ---- the row at the front

begins_front : (d : Marks) (n : ℕ) (bytes : List ℕ) → begins_comment d bytes ≡ false → begins_comment d (take n bytes) ≡ false
begins_front d zero bytes h = refl
begins_front d (suc n) [] h = refl
begins_front d (suc n) (b ∷ bytes) h = h

module _ (d : Marks) (bytes : List ℕ) (end : ℕ) (high : end < length bytes) (all : AllBare d (take end bytes)) (ends : is_line_end_byte (get_or bytes end 0) ≡ true) (no_comment : begins_comment d bytes ≡ false) where
  abbrev row : List ℕ
  row = take end bytes

  begins : begins_comment d row ≡ false
  begins = begins_front d end bytes no_comment

  row_long : length row ≡ end
  row_long = omega (arith, length-take end bytes, high)

  whole : row ++ get_or bytes end 0 ∷ drop (end + 1) bytes ≡ bytes
  whole = ap (λ v. row ++ v) (sym (drop_more bytes end 0 high)) ∙ take-append-drop end bytes

  -- a row's end is found alike from the start of a row and from that of a field
  len_of : (s : State) → length (row_at d s bytes 0) ≡ row_end d s bytes 0
  len_of s =
      let within : row_end d s bytes 0 ≤ length bytes = first_place-within (is_row_end d s bytes) 0 bytes in
      omega (arith, length-take (row_end d s bytes 0 - 0) bytes, within)

  len : end ≡ row_len d bytes 0
  len = sym (sym (len_of RowStart) ∙ ap length (row_at-start d bytes no_comment) ∙ len_of FieldStart
      ∙ ap (λ v. row_end d FieldStart v 0) (sym whole) ∙ end_at d true row (get_or bytes end 0) (drop (end + 1) bytes) all ends ∙ row_long)

  row_is : row ≡ row_from d bytes 0
  row_is = let same : end ≡ 0 + row_len d bytes 0 - 0 = omega (arith, len) in ap (λ n. take n bytes) same

  pub counts_bare : HasCount d bytes (record { end = end; fields = delims d row + 1; quoted = 0 })
  counts_bare = record {
    len = len;
    within = omega (arith, high);
    sound = ap (λ v. is_none {T = Flaw} (option_map (λ at. record { column = length (fields d v) - 1; at = at }) (flaw_at (broken_in d RowStart v) (is_inside_quotes (state_after d RowStart v)) (last_at d v)))) (sym row_is)
        ∙ (λ i. is_none {T = Flaw} (option_map (λ at. record { column = length (fields d row) - 1; at = at })
        (flaw_at ((broken_in-start d row begins ∙ unbroken d true row all) i) ((inside-start d row begins ∙ outside d true row all) i) (last_at d row))));
    fields = sym (length-fields_from d 0 (raw_fields d RowStart row) ∙ ap length (raw_fields-start d row begins) ∙ raws_many d true row all) ∙ ap (λ v. length (fields d v)) row_is;
    closed = sym (none_closed d row (λ k other lt. ap (is_quote d) (get_or_default row k other 0 lt) ∙ (all k lt).quote)) ∙ ap (closed_fields d) row_is;
  }
