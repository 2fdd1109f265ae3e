-- A row behind which another begins ends before the end of the text.
use Rattle.std.proofs.Common.{◌≡◌, ◌≢◌, ℕ, zero, suc, ◌+◌, ◌-◌, ◌<◌, ◌≤◌, Bool, true, false, cond, List, [], ◌∷◌, map, length, take, refl, sym, ◌∙◌, ap, arith, Some}
use Rattle.std.specs.Prelude.{filter, nat_lt, ◌==◌, find, unwrap_or, slice_index}
use Rattle.std.specs.List.{range_with_len}
use Rattle.std.proofs.lemmas.Bool.{ne_eqb, cond_both}
use Rattle.byte_classes.specs.Dialect.{Marks}
use Rattle.byte_classes.specs.Class.{class_of}
use Rattle.quote_automaton.specs.declared.state.State.TheVariants.{RowStart}
use Rattle.quote_automaton.specs.Automaton.{next, state_at}
use Rattle.quote_automaton.specs.Rows.{begins_row, is_row_start, is_row_end, row_starts, row_end}
use Rattle.quote_automaton.proofs.RowBegins.{begins_behind_end}
use Rattle.row_fields.proofs.TextQuotes.{state_at-next}
use Rattle.dialect_rank.specs.Sampled.{Span, filled_rows, ends_at}

-- ---- a row begins behind the end of the row before it

end_before : (d : Marks) (bytes : List ℕ) (q : ℕ) → q < length bytes → is_row_start d RowStart bytes (suc q) ≡ true → is_row_end d RowStart bytes q ≡ true
end_before d bytes q inside starts =
    begins_behind_end d (state_at d RowStart bytes q) (class_of d (slice_index bytes q)) (class_of d (slice_index bytes (suc q)))
    (ap (λ s. begins_row s (class_of d (slice_index bytes (suc q)))) (sym (state_at-next d RowStart bytes q inside)) ∙ starts)

-- the first place that passes is no later than any other
first_in : (test : ℕ → Bool) (a n q most : ℕ) → a ≤ q → q < a + n → test q ≡ true → unwrap_or (find test (range_with_len a n)) most ≤ q
first_in test a zero q most low high is = absurd (let no : ⊥ = omega (arith, low, high) in no)
first_in test a (suc n) q most low high is =
    cond_both (test a) (Some a) (find test (range_with_len (a + 1) n)) (λ o. unwrap_or o most ≤ q) (λ e. low)
    (λ e. (let other : a ≢ q = λ same. (let wrong : test q ≡ false = sym (ap test same) ∙ e in absurd (let no : ⊥ = cc in no)) in
    first_in test (a + 1) n q most (omega (arith, other, low)) (omega (arith, high)) is))

-- a row behind which another begins ends before the end
row_end-early : (d : Marks) (bytes : List ℕ) (p q : ℕ) → p < q → q < length bytes → is_row_start d RowStart bytes q ≡ true → row_end d RowStart bytes p < length bytes
row_end-early d bytes p zero low high is = absurd (let no : ⊥ = omega (arith, low) in no)
row_end-early d bytes p (suc q) low high is =
    let end : row_end d RowStart bytes p ≤ q = first_in (is_row_end d RowStart bytes) p (length bytes - p) q (length bytes) (omega (arith, low)) (omega (arith, low, high)) (end_before d bytes q (omega (arith, high)) is) in
    omega (arith, end, high)

-- ---- spans of which each but the last ends before the end

abbrev pub EndEarly : ℕ → List Span → Type 0
EndEarly end [] = Unit {0}
EndEarly end (span ∷ []) = Unit {0}
EndEarly end (span ∷ (next ∷ spans)) = (span.1 < end) × EndEarly end (next ∷ spans)

early-cons : (end : ℕ) (span : Span) (spans : List Span) → (spans ≢ [] → span.1 < end) → EndEarly end spans → EndEarly end (span ∷ spans)
early-cons end span [] h rest = tt
early-cons end span (next ∷ spans) h rest = (h (λ e. let no : ⊥ = cc in no), rest)

early-head : (end : ℕ) (span : Span) (spans : List Span) → EndEarly end (span ∷ spans) → spans ≢ [] → span.1 < end
early-head end span [] h some = absurd (some refl)
early-head end span (next ∷ spans) h some = h.0

early-tail : (end : ℕ) (span : Span) (spans : List Span) → EndEarly end (span ∷ spans) → EndEarly end spans
early-tail end span [] h = tt
early-tail end span (next ∷ spans) h = h.1

early-filter : (end : ℕ) (test : Span → Bool) (spans : List Span) → EndEarly end spans → EndEarly end (filter test spans)
early-filter end test [] h = tt
early-filter end test (span ∷ spans) h = by_test (test span) (early-filter end test spans (early-tail end span spans h)) where
  by_test : (t : Bool) → EndEarly end (filter test spans) → EndEarly end (cond t (span ∷ filter test spans) (filter test spans))
  by_test true rest = early-cons end span (filter test spans) (λ some. early-head end span spans h (λ e. some (ap (filter test) e))) rest
  by_test false rest = rest

take-none : {X : Type 0} (n : ℕ) → take {A = X} n [] ≡ []
take-none zero = refl
take-none (suc n) = refl

pub early-take : (end n : ℕ) (spans : List Span) → EndEarly end spans → EndEarly end (take n spans)
early-take end zero spans h = tt
early-take end (suc n) [] h = tt
early-take end (suc n) (span ∷ spans) h =
    early-cons end span (take n spans) (λ some. early-head end span spans h (λ e. some (ap (take n) e ∙ take-none n))) (early-take end n spans (early-tail end span spans h))

-- without the last one, none ends at the end
ends_at-cons : (end : ℕ) (span : Span) (spans : List Span) → (span.1 == end) ≡ false → ends_at end spans ≡ false → ends_at end (span ∷ spans) ≡ false
ends_at-cons end span [] here rest = here
ends_at-cons end span (next ∷ spans) here rest = rest

pub without_last-early : (end : ℕ) (spans : List Span) → EndEarly end spans → ends_at end (take (length spans - 1) spans) ≡ false
without_last-early end [] h = refl
without_last-early end (span ∷ []) h = refl
without_last-early end (span ∷ (next ∷ spans)) h =
    let less : suc (length (next ∷ spans)) - 1 ≡ suc (length (next ∷ spans) - 1) = omega arith in
    ap (λ n. ends_at end (take n (span ∷ (next ∷ spans)))) less
    ∙ ends_at-cons end span (take (length (next ∷ spans) - 1) (next ∷ spans)) (ne_eqb span.1 end (λ e. omega (arith, e, h.0))) (without_last-early end (next ∷ spans) h.1)

-- ---- the rows of a sample

abbrev pub to_span : Marks → List ℕ → ℕ → Span
to_span d sample p = (p, row_end d RowStart sample p)

some_start : (test : ℕ → Bool) (a n : ℕ) → filter test (range_with_len a n) ≢ [] → (q : ℕ) × (a ≤ q) × (q < a + n) × (test q ≡ true)
some_start test a zero some = absurd (some refl)
some_start test a (suc n) some = by_test (test a) refl (λ more. some_start test (a + 1) n more) some where
  by_test : (t : Bool) → test a ≡ t → (filter test (range_with_len (a + 1) n) ≢ [] → (q : ℕ) × (a + 1 ≤ q) × (q < a + 1 + n) × (test q ≡ true)) →
      cond t (a ∷ filter test (range_with_len (a + 1) n)) (filter test (range_with_len (a + 1) n)) ≢ [] → (q : ℕ) × (a ≤ q) × (q < a + suc n) × (test q ≡ true)
  by_test true is rest h = (a, omega arith, omega arith, is)
  by_test false is rest h = let later = rest h in (later.0, omega (arith, later.1), omega (arith, later.2), later.3)

map-some : {X Y : Type 0} (f : X → Y) (xs : List X) → map f xs ≢ [] → xs ≢ []
map-some f xs h e = h (ap (map f) e)

early-starts : (d : Marks) (sample : List ℕ) (a n : ℕ) → a + n ≤ length sample → EndEarly (length sample) (map (to_span d sample) (filter (is_row_start d RowStart sample) (range_with_len a n)))
early-starts d sample a zero within = tt
early-starts d sample a (suc n) within = by_test (is_row_start d RowStart sample a) (early-starts d sample (a + 1) n (omega (arith, within))) where
  rest : List ℕ
  rest = filter (is_row_start d RowStart sample) (range_with_len (a + 1) n)

  ends : map (to_span d sample) rest ≢ [] → row_end d RowStart sample a < length sample
  ends some =
      let later = some_start (is_row_start d RowStart sample) (a + 1) n (map-some (to_span d sample) rest some) in
      row_end-early d sample a later.0 (omega (arith, later.1)) (omega (arith, later.2, within)) later.3

  by_test : (t : Bool) → EndEarly (length sample) (map (to_span d sample) rest) → EndEarly (length sample) (map (to_span d sample) (cond t (a ∷ rest) rest))
  by_test true early = early-cons (length sample) (to_span d sample a) (map (to_span d sample) rest) ends early
  by_test false early = early

pub early-rows : (d : Marks) (sample : List ℕ) → EndEarly (length sample) (filled_rows d sample)
early-rows d sample =
    early-filter (length sample) (λ span. nat_lt span.0 span.1) (map (to_span d sample) (row_starts d RowStart sample)) (early-starts d sample 0 (length sample) (omega arith))
