-- What is known of cells, and of more cells behind them.
use Rattle.std.proofs.Common.{◌≡◌, ℕ, suc, ◌+◌, ◌<◌, ◌≤◌, Bool, true, false, List, [], ◌∷◌, ◌++◌, Option, Some, None, length, get_or, take, refl, sym, ap, ◌∙◌, add-zero, length-append, arith}
use Rattle.std.specs.Prelude.{All, IfSome, count_by, flat_map, nat_le, if◌then◌else◌}
use Rattle.std.specs.List.{fold, list_any}
use Rattle.std.specs.Str.{bytes_eq}
use Rattle.std.proofs.lemmas.List.{map-append}
use Rattle.std.proofs.lemmas.List.Sums.{fold-append, sum_by-append}
use Rattle.value_types.specs.declared.types.Value.{Value}
use Rattle.value_types.specs.Datum.{Datum, null, typed, text}
use Rattle.value_types.specs.Spelled.{IsSpelled, IsSpelledCell}
use Rattle.column_profile.specs.declared.limits.TheConstants.{MOST_DIFFERENT}
use Rattle.column_profile.specs.declared.span.Span.{Span}
use Rattle.column_profile.specs.Folded.{kept_with, tally_after}
use Rattle.column_profile.specs.Kept.{HasSpelledSpan}
use Rattle.column_profile.specs.Profile.{cells_in}
use Rattle.column_profile.specs.Tally.{Apart, Tally, apart_count, apart_in, apart_with, is_null_cell, lengths_with, nothing_apart, span_with, tally_of, within_most}
use Rattle.column_profile.specs.Values.{same_value}
use Rattle.column_profile.proofs.PartSteps.{flat_next}

-- ---- cells behind others

nulls_join : (first : ℕ) (xs ys : List Datum) → first + count_by is_null_cell xs + count_by is_null_cell ys ≡ first + count_by is_null_cell (xs ++ ys)
nulls_join first xs ys = let both = sum_by-append (λ cell. if is_null_cell cell then 1 else 0) xs ys in omega (arith, both)

pub tallies_join : (tally : Tally) (xs ys : List Datum) → tally_after (tally_after tally xs) ys ≡ tally_after tally (xs ++ ys)
tallies_join tally xs ys = λ i. record {
  nulls = nulls_join tally.nulls xs ys i;
  apart = sym (fold-append kept_with tally.apart xs ys) i;
  span = sym (fold-append span_with tally.span xs ys) i;
  lengths = sym (fold-append lengths_with tally.lengths xs ys) i;
}

pub tally_after-nil : (tally : Tally) → tally ≡ tally_after tally []
tally_after-nil tally = λ i. record { nulls = sym (add-zero tally.nulls) i; apart = tally.apart; span = tally.span; lengths = tally.lengths }

-- different ones never get fewer
with_more : {A : Type 0} (there : Bool) (elements : List A) (x : A) → length elements ≤ length (if there then elements else elements ++ x ∷ [])
with_more true elements x = omega arith
with_more false elements x = omega (arith, length-append elements (x ∷ []))

count_grows : (apart : Apart) (cell : Datum) → apart_count apart ≤ apart_count (apart_with apart cell)
count_grows apart null = omega arith
count_grows apart (typed value) = let more = with_more (list_any (same_value value) apart.values) apart.values value in omega (arith, more)
count_grows apart (text bytes) = let more = with_more (list_any (bytes_eq bytes) apart.texts) apart.texts bytes in omega (arith, more)

kept_within : (apart : Apart) (cell : Datum) → kept_with (within_most apart) cell ≡ within_most (apart_with apart cell)
kept_within apart cell =
    let grows = count_grows apart cell in
    let P : Bool → Bool → Type 0 = λ now next. now ≡ nat_le (apart_count apart) MOST_DIFFERENT → next ≡ nat_le (apart_count (apart_with apart cell)) MOST_DIFFERENT
    → kept_with (if now then Some apart else None) cell ≡ (if next then Some (apart_with apart cell) else None) in
    let each : (now next : Bool) → P now next = λ now next. elim now as (λ now. P now next) [
      | true ↦ (λ p q. ap (λ (t : Bool). if t then Some (apart_with apart cell) else None) (sym q))
      | false ↦ elim next as (λ next. P false next) [
        | true ↦ (λ p q. absurd (let no : ⊥ = grind (arith, grows, p, q) in no))
        | false ↦ (λ p q. refl)
      ]
    ] in
    each (nat_le (apart_count apart) MOST_DIFFERENT) (nat_le (apart_count (apart_with apart cell)) MOST_DIFFERENT) refl refl

kept_all : (apart : Apart) (cells : List Datum) → fold kept_with (within_most apart) cells ≡ within_most (fold apart_with apart cells)
kept_all apart [] = refl
kept_all apart (cell ∷ cells) = ap (λ kept. fold kept_with kept cells) (kept_within apart cell) ∙ kept_all (apart_with apart cell) cells

-- what is known of cells and of others behind them is known of all
pub tally_of-append : (xs ys : List Datum) → tally_after (tally_of xs) ys ≡ tally_of (xs ++ ys)
tally_of-append xs ys =
    let both = sum_by-append (λ cell. if is_null_cell cell then 1 else 0) xs ys in
    let nulls : count_by is_null_cell xs + count_by is_null_cell ys ≡ count_by is_null_cell (xs ++ ys) = omega (arith, both) in λ i. record {
      nulls = nulls i;
      apart = (kept_all (apart_in xs) ys ∙ ap within_most (sym (fold-append apart_with nothing_apart xs ys))) i;
      span = sym (fold-append span_with None xs ys) i;
      lengths = sym (fold-append lengths_with None xs ys) i;
    }

pub cells_in-append : (column : ℕ) (xs ys : List (List Datum)) → cells_in column (xs ++ ys) ≡ cells_in column xs ++ cells_in column ys
cells_in-append column xs ys = map-append (λ row. get_or row column null) xs ys

-- ---- values that can be printed

abbrev IsPrintable : Option Span → Type 0
IsPrintable span = IfSome span (λ span. IsSpelled span.least × IsSpelled span.greatest)

either : (b : Bool) (x y : Value) → IsSpelled x → IsSpelled y → IsSpelled (if b then y else x)
either true x y here there = there
either false x y here there = here

span_printable : (span : Option Span) (cell : Datum) → IsPrintable span → IsSpelledCell cell → IsPrintable (span_with span cell)
span_printable span null printable spelled = printable
span_printable span (text bytes) printable spelled = printable
span_printable None (typed value) printable spelled = (spelled, spelled)
span_printable (Some span) (typed value) printable spelled = (either _ span.least value printable.0 spelled, either _ span.greatest value printable.1 spelled)

spans_printable : (span : Option Span) (cells : List Datum) → IsPrintable span → All IsSpelledCell cells → IsPrintable (fold span_with span cells)
spans_printable span [] printable spelled = printable
spans_printable span (cell ∷ cells) printable spelled =
    spans_printable (span_with span cell) cells (span_printable span cell printable (spelled 0 null (omega arith))) (λ k d below. spelled (suc k) d (omega (arith, below)))

pub stays_spelled : (tally : Tally) (cells : List Datum) → All IsSpelledCell cells → HasSpelledSpan tally → HasSpelledSpan (tally_after tally cells)
stays_spelled tally cells spelled printable = spans_printable tally.span cells printable spelled

-- ---- the cells of a column, chunk by chunk

pub tally_more : {X : Type 0} (rows : X → List (List Datum)) (xs : List X) (k column : ℕ) (x : X) (old now new : Tally) → k < length xs → x ≡ get_or xs k x
    → now ≡ tally_after old (cells_in column (flat_map rows (take k xs))) → new ≡ tally_after now (cells_in column (rows x))
    → new ≡ tally_after old (cells_in column (flat_map rows (take (k + 1) xs)))
tally_more rows xs k column x old now new within is so_far told =
    told ∙ ap (λ tally. tally_after tally (cells_in column (rows x))) so_far
    ∙ tallies_join old (cells_in column (flat_map rows (take k xs))) (cells_in column (rows x))
    ∙ ap (tally_after old) (sym (cells_in-append column (flat_map rows (take k xs)) (rows x)) ∙ ap (cells_in column) (sym (flat_next rows xs k x within is)))
