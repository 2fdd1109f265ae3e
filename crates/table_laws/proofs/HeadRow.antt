-- The first row of at least one byte, whatever follows its end.
use Rattle.std.proofs.Common.{◌≡◌, ℕ, zero, suc, ◌<◌, ◌≤◌, Bool, true, false, ◌&&◌, not, cond, List, [], ◌∷◌, ◌++◌, map, length, refl, sym, ◌∙◌, ap, subst, arith}
use Rattle.std.specs.Prelude.{filter, nat_lt}
use Rattle.std.proofs.lemmas.Bool.{lt-ltb, le-ltb, ltb-true, ltb-false}
use Rattle.byte_classes.specs.Class.{class_of}
use Rattle.byte_classes.specs.Dialect.{Marks}
use Rattle.byte_classes.proofs.PlaceLaws.{map-cond}
use Rattle.quote_automaton.specs.declared.state.State.{State}
use Rattle.quote_automaton.specs.declared.state.State.TheVariants.{RowStart}
use Rattle.quote_automaton.specs.Automaton.{step}
use Rattle.quote_automaton.specs.Rows.{begins_row, ends_row, row_starts, row_end}
use Rattle.quote_automaton.proofs.RowLaws.{row_starts-cons, row_end-cons_zero, row_end-cons_suc}
use Rattle.dialect_rank.specs.Sampled.{Span, filled_rows}

-- ---- the spans of rows, by the first byte

abbrev span_at : Marks → State → List ℕ → ℕ → Span
span_at d s bytes p = (p, row_end d s bytes p)

abbrev filled : Span → Bool
filled span = nat_lt span.0 span.1

-- the rows of at least one byte of bytes that are read from a state
abbrev pub spans_from : Marks → State → List ℕ → List Span
spans_from d s bytes = filter filled (map (span_at d s bytes) (row_starts d s bytes))

-- one byte further on
abbrev pub further : Span → Span
further span = (suc span.0, suc span.1)

map-raised : (d : Marks) (s : State) (b : ℕ) (bytes ks : List ℕ) → map (span_at d s (b ∷ bytes)) (map suc ks) ≡ map further (map (span_at d (step d s b) bytes) ks)
map-raised d s b bytes [] = refl
map-raised d s b bytes (k ∷ ks) = λ i. (suc k, row_end-cons_suc d s b bytes k i) ∷ map-raised d s b bytes ks i

further_filled : (a b : ℕ) → nat_lt (suc a) (suc b) ≡ nat_lt a b
further_filled a b = by_test (nat_lt a b) refl where
  by_test : (t : Bool) → nat_lt a b ≡ t → nat_lt (suc a) (suc b) ≡ t
  by_test true is = lt-ltb (suc a) (suc b) (let below : a < b = ltb-true a b is in omega (arith, below))
  by_test false is = le-ltb (suc a) (suc b) (let none : b ≤ a = ltb-false a b is in omega (arith, none))

filter-further : (spans : List Span) → filter filled (map further spans) ≡ map further (filter filled spans)
filter-further [] = refl
filter-further (span ∷ spans) =
    (λ i. cond (further_filled span.0 span.1 i) (further span ∷ filter-further spans i) (filter-further spans i))
    ∙ sym (map-cond further (nat_lt span.0 span.1) (span ∷ filter filled spans) (filter filled spans))

-- the first row, if one begins with the first byte and has it
abbrev own_span : Marks → State → ℕ → List ℕ → List Span
own_span d s b bytes = cond (begins_row s (class_of d b) && not (ends_row s (class_of d b))) ((0, suc (row_end d (step d s b) bytes 0)) ∷ []) []

pub spans_from-cons : (d : Marks) (s : State) (b : ℕ) (bytes : List ℕ) → spans_from d s (b ∷ bytes) ≡ own_span d s b bytes ++ map further (spans_from d (step d s b) bytes)
spans_from-cons d s b bytes =
    ap (λ ks. filter filled (map (span_at d s (b ∷ bytes)) ks)) (row_starts-cons d s b bytes)
    ∙ by_begin (begins_row s (class_of d b))
  where
    starts : List ℕ
    starts = row_starts d (step d s b) bytes

    end : ℕ
    end = suc (row_end d (step d s b) bytes 0)

    later : filter filled (map (span_at d s (b ∷ bytes)) (map suc starts)) ≡ map further (spans_from d (step d s b) bytes)
    later = ap (filter filled) (map-raised d s b bytes starts) ∙ filter-further (map (span_at d (step d s b) bytes) starts)

    by_end : (t : Bool) (rest : List Span) → cond (nat_lt 0 (cond t 0 end)) ((0, cond t 0 end) ∷ rest) rest ≡ cond (not t) ((0, end) ∷ []) [] ++ rest
    by_end true rest = refl
    by_end false rest = ap (λ t. cond t ((0, end) ∷ rest) rest) (lt-ltb 0 end (omega arith))

    by_begin : (t : Bool) → filter filled (map (span_at d s (b ∷ bytes)) (cond t (0 ∷ []) [] ++ map suc starts)) ≡ cond (t && not (ends_row s (class_of d b))) ((0, end) ∷ []) [] ++ map further (spans_from d (step d s b) bytes)
    by_begin true =
        (λ i. cond (nat_lt 0 (row_end-cons_zero d s b bytes i)) ((0, row_end-cons_zero d s b bytes i) ∷ later i) (later i))
        ∙ by_end (ends_row s (class_of d b)) (map further (spans_from d (step d s b) bytes))
    by_begin false = later

-- ---- what follows the end of a row

-- the end of the row under way
row_end-alike : (d : Marks) (s : State) (front rest other : List ℕ) (e : ℕ) → row_end d s (front ++ rest) 0 ≡ e → e < length front → row_end d s (front ++ other) 0 ≡ e
row_end-alike d s [] rest other e is inside = absurd (let no : ⊥ = omega (arith, inside) in no)
row_end-alike d s (b ∷ front) rest other e is inside =
    row_end-cons_zero d s b (front ++ other)
    ∙ by_end (ends_row s (class_of d b)) (λ below. row_end-alike d (step d s b) front rest other (row_end d (step d s b) (front ++ rest) 0) refl below) (sym (row_end-cons_zero d s b (front ++ rest)) ∙ is)
  where
    by_end : (t : Bool) → (row_end d (step d s b) (front ++ rest) 0 < length front → row_end d (step d s b) (front ++ other) 0 ≡ row_end d (step d s b) (front ++ rest) 0) →
        cond t 0 (suc (row_end d (step d s b) (front ++ rest) 0)) ≡ e → cond t 0 (suc (row_end d (step d s b) (front ++ other) 0)) ≡ e
    by_end true later here = here
    by_end false later here = ap suc (later (omega (arith, here, inside))) ∙ here

-- the first of some spans
abbrev pub first_start : List Span → ℕ
first_start [] = 0
first_start (span ∷ spans) = span.0

abbrev pub first_end : List Span → ℕ
first_end [] = 0
first_end (span ∷ spans) = span.1

abbrev pub FirstSpan : Span → List Span → Type 0
FirstSpan span spans = (more : List Span) × (spans ≡ span ∷ more)

pub first_further : (p e : ℕ) (spans : List Span) → FirstSpan (suc p, suc e) (map further spans) → FirstSpan (p, e) spans
first_further p e [] (more, is) = absurd (let no : ⊥ = cc in no)
first_further p e ((q, f) ∷ spans) (more, is) =
    let one : suc q ≡ suc p = ap first_start is in
    let two : suc f ≡ suc e = ap first_end is in
    let start : q ≡ p = omega (arith, one) in
    let end : f ≡ e = omega (arith, two) in
    (spans, λ i. (start i, end i) ∷ spans)

first_from : (d : Marks) (s : State) (front rest other : List ℕ) (p e : ℕ) → FirstSpan (p, e) (spans_from d s (front ++ rest)) → e < length front → FirstSpan (p, e) (spans_from d s (front ++ other))
first_from d s [] rest other p e first inside = absurd (let no : ⊥ = omega (arith, inside) in no)
first_from d s (b ∷ front) rest other p e first inside =
    subst (FirstSpan (p, e)) (sym (spans_from-cons d s b (front ++ other)))
    (by_own (begins_row s (class_of d b) && not (ends_row s (class_of d b))) (λ q f later below. first_from d (step d s b) front rest other q f later below)
    (subst (FirstSpan (p, e)) (spans_from-cons d s b (front ++ rest)) first))
  where
    Later : Type 0
    Later = (q f : ℕ) → FirstSpan (q, f) (spans_from d (step d s b) (front ++ rest)) → f < length front → FirstSpan (q, f) (spans_from d (step d s b) (front ++ other))

    by_own : (t : Bool) → Later → FirstSpan (p, e) (cond t ((0, suc (row_end d (step d s b) (front ++ rest) 0)) ∷ []) [] ++ map further (spans_from d (step d s b) (front ++ rest))) →
        FirstSpan (p, e) (cond t ((0, suc (row_end d (step d s b) (front ++ other) 0)) ∷ []) [] ++ map further (spans_from d (step d s b) (front ++ other)))
    by_own true later (more, is) =
        let start : 0 ≡ p = ap first_start is in
        let end : suc (row_end d (step d s b) (front ++ rest) 0) ≡ e = ap first_end is in
        let same : row_end d (step d s b) (front ++ other) 0 ≡ row_end d (step d s b) (front ++ rest) 0 =
        row_end-alike d (step d s b) front rest other (row_end d (step d s b) (front ++ rest) 0) refl (omega (arith, end, inside)) in
        (map further (spans_from d (step d s b) (front ++ other)), λ i. (start i, (ap suc same ∙ end) i) ∷ map further (spans_from d (step d s b) (front ++ other)))
    by_own false later is = by_place p e is inside where
      by_place : (p e : ℕ) → FirstSpan (p, e) (map further (spans_from d (step d s b) (front ++ rest))) → e < suc (length front) → FirstSpan (p, e) (map further (spans_from d (step d s b) (front ++ other)))
      by_place zero e is below = absurd (none_at_zero (spans_from d (step d s b) (front ++ rest)) is) where
        none_at_zero : (spans : List Span) → FirstSpan (zero, e) (map further spans) → ⊥
        none_at_zero [] (more, is) = let no : ⊥ = cc in no
        none_at_zero ((q, f) ∷ spans) (more, is) = let start : suc q ≡ 0 = ap first_start is in let no : ⊥ = omega (arith, start) in no
      by_place (suc q) zero is below = absurd (none_at_zero (spans_from d (step d s b) (front ++ rest)) is) where
        none_at_zero : (spans : List Span) → FirstSpan (suc q, zero) (map further spans) → ⊥
        none_at_zero [] (more, is) = let no : ⊥ = cc in no
        none_at_zero ((r, f) ∷ spans) (more, is) = let end : suc f ≡ 0 = ap first_end is in let no : ⊥ = omega (arith, end) in no
      by_place (suc q) (suc f) is below =
          let found = later q f (first_further q f (spans_from d (step d s b) (front ++ rest)) is) (omega (arith, below)) in
          (map further found.0, ap (map further) found.1)

pub first_row_alike : (d : Marks) (front rest other : List ℕ) (p e : ℕ) → FirstSpan (p, e) (filled_rows d (front ++ rest)) → e < length front → FirstSpan (p, e) (filled_rows d (front ++ other))
first_row_alike d front rest other p e first inside = first_from d RowStart front rest other p e first inside
