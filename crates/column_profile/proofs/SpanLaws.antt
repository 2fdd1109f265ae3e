-- The least and the greatest value, cell by cell.
use Rattle.std.proofs.Common.{◌≡◌, ℤ, Bool, true, false, List, [], ◌∷◌, ◌++◌, Option, Some, None, refl, arith}
use Rattle.std.specs.Prelude.{All, int_lt, if◌then◌else◌, ◌≤ℤ◌}
use Rattle.std.specs.List.{Contains}
use Rattle.std.specs.Option.{MatchOption}
use Rattle.std.proofs.lemmas.Int.{ints}
use Rattle.std.proofs.lemmas.List.Elements.{All-nil, All-push, All-weaker, Contains-append_left, Contains-push}
use Rattle.value_types.specs.declared.types.Value.{Value}
use Rattle.value_types.specs.Datum.{Datum, null, typed, text}
use Rattle.column_profile.specs.declared.span.Span.{Span}
use Rattle.column_profile.specs.Laws.{HasNoValue, IsSpanOf, SpansAreExact, StandsWithin}
use Rattle.column_profile.specs.Tally.{span_with}
use Rattle.column_profile.specs.Values.{greater, lesser, number_of}
use Rattle.column_profile.proofs.EachCell.{holds_of_all}

abbrev HasSpan : List Datum → Option Span → Type 0
HasSpan cells span = MatchOption span (All HasNoValue cells) (IsSpanOf cells)

-- ---- the order of two

same : (a : ℤ) → a ≤ℤ a
same a = omega (arith, ints)

passes : (a b c : ℤ) → a ≤ℤ b → b ≤ℤ c → a ≤ℤ c
passes a b c first second = omega (arith, ints)

under : (a b : ℤ) → int_lt a b ≡ true → a ≤ℤ b
under a b is = grind (arith, ints)

over : (a b : ℤ) → int_lt a b ≡ false → b ≤ℤ a
over a b is = grind (arith, ints)

-- the lesser of two stands before both, and the greater one behind them
lesser_before : (a v : Value) → (number_of (lesser a v) ≤ℤ number_of a) × (number_of (lesser a v) ≤ℤ number_of v)
lesser_before a v =
    let P : Bool → Type 0 = λ b. int_lt (number_of v) (number_of a) ≡ b → (number_of (if b then v else a) ≤ℤ number_of a) × (number_of (if b then v else a) ≤ℤ number_of v) in
    let each : (b : Bool) → P b = λ b. elim b as P [
      | true ↦ (λ is. (under (number_of v) (number_of a) is, same (number_of v)))
      | false ↦ (λ is. (same (number_of a), over (number_of v) (number_of a) is))
    ] in
    each (int_lt (number_of v) (number_of a)) refl

greater_behind : (a v : Value) → (number_of a ≤ℤ number_of (greater a v)) × (number_of v ≤ℤ number_of (greater a v))
greater_behind a v =
    let P : Bool → Type 0 = λ b. int_lt (number_of a) (number_of v) ≡ b → (number_of a ≤ℤ number_of (if b then v else a)) × (number_of v ≤ℤ number_of (if b then v else a)) in
    let each : (b : Bool) → P b = λ b. elim b as P [
      | true ↦ (λ is. (under (number_of a) (number_of v) is, same (number_of v)))
      | false ↦ (λ is. (same (number_of a), over (number_of a) (number_of v) is))
    ] in
    each (int_lt (number_of a) (number_of v)) refl

-- ---- one cell more

module _ (before : List Datum) (cell : Datum) where
  none_more : HasNoValue cell → All HasNoValue before → All HasNoValue (before ++ cell ∷ [])
  none_more has all = All-push HasNoValue before cell all has

  -- a cell that stands within a span keeps it
  span_stays : (span : Span) → StandsWithin span cell → IsSpanOf before span → IsSpanOf (before ++ cell ∷ []) span
  span_stays span here is = record {
    least = Contains-append_left before (cell ∷ []) (typed span.least) is.least;
    greatest = Contains-append_left before (cell ∷ []) (typed span.greatest) is.greatest;
    within = All-push (StandsWithin span) before cell is.within here;
  }

unvalued_within : (span : Span) (cell : Datum) → HasNoValue cell → StandsWithin span cell
unvalued_within span null has = tt
unvalued_within span (typed value) has = absurd has
unvalued_within span (text bytes) has = tt

widened : (narrow wide : Span) → number_of wide.least ≤ℤ number_of narrow.least → number_of narrow.greatest ≤ℤ number_of wide.greatest → (cell : Datum) → StandsWithin narrow cell → StandsWithin wide cell
widened narrow wide below above null stands = tt
widened narrow wide below above (typed value) stands =
    (passes (number_of wide.least) (number_of narrow.least) (number_of value) below stands.0, passes (number_of value) (number_of narrow.greatest) (number_of wide.greatest) stands.1 above)
widened narrow wide below above (text bytes) stands = tt

one_found : (cells : List Datum) (b : Bool) (a v : Value) → Contains cells (typed a) → Contains cells (typed v) → Contains cells (typed (if b then v else a))
one_found cells true a v first second = second
one_found cells false a v first second = first

module _ (before : List Datum) (value : Value) where
  first_value : All HasNoValue before → IsSpanOf (before ++ typed value ∷ []) (record { least = value; greatest = value })
  first_value none = record {
    least = Contains-push before (typed value);
    greatest = Contains-push before (typed value);
    within = All-push (StandsWithin (record { least = value; greatest = value })) before (typed value)
        (All-weaker HasNoValue (StandsWithin (record { least = value; greatest = value })) (unvalued_within (record { least = value; greatest = value })) before none)
        (same (number_of value), same (number_of value));
  }

  next_value : (span : Span) → IsSpanOf before span → IsSpanOf (before ++ typed value ∷ []) (record { least = lesser span.least value; greatest = greater span.greatest value })
  next_value span is =
      let wide : Span = record { least = lesser span.least value; greatest = greater span.greatest value } in
      let below = lesser_before span.least value in
      let above = greater_behind span.greatest value in record {
        least = one_found (before ++ typed value ∷ []) (int_lt (number_of value) (number_of span.least)) span.least value
            (Contains-append_left before (typed value ∷ []) (typed span.least) is.least) (Contains-push before (typed value));
        greatest = one_found (before ++ typed value ∷ []) (int_lt (number_of span.greatest) (number_of value)) span.greatest value
            (Contains-append_left before (typed value ∷ []) (typed span.greatest) is.greatest) (Contains-push before (typed value));
        within = All-push (StandsWithin wide) before (typed value) (All-weaker (StandsWithin span) (StandsWithin wide) (widened span wide below.0 above.0) before is.within) (below.1, above.1);
      }

span_keeps : (before : List Datum) (span : Option Span) (cell : Datum) → HasSpan before span → HasSpan (before ++ cell ∷ []) (span_with span cell)
span_keeps before None null has = none_more before null tt has
span_keeps before None (typed value) has = first_value before value has
span_keeps before None (text bytes) has = none_more before (text bytes) tt has
span_keeps before (Some span) null has = span_stays before null span tt has
span_keeps before (Some span) (typed value) has = next_value before value span has
span_keeps before (Some span) (text bytes) has = span_stays before (text bytes) span tt has

pub spans_exact : SpansAreExact
spans_exact = holds_of_all span_with HasSpan span_keeps None (All-nil HasNoValue)
