-- Room for the counts.
use Rattle.std.proofs.Common.{ℕ, ◌+◌, ◌<◌, ◌^◌, List, [], ◌∷◌, Option, Some, None, length, sym, subst, arith}
use Rattle.std.specs.Prelude.{count_by, sum_by, Bool, true, false, if◌then◌else◌, nat_le}
use Rattle.std.proofs.lemmas.List.Sums.{count_by-le-length, sum_by-cons}
use Rattle.value_types.specs.Datum.{Datum}
use Rattle.value_types.specs.Extent.{extent_with}
use Rattle.column_taps.specs.declared.kind.TapKind.{TapKind}
use Rattle.column_taps.specs.declared.kind.TapKind.TheVariants.{Count, Span, Width, Distinct}
use Rattle.value_types.specs.declared.extent.Extent as extents
use Rattle.column_taps.specs.declared.width.Width as widths
use Rattle.column_taps.specs.Pairs.{Pair, pairs_with}
use Rattle.column_taps.specs.Seen.{Seen, counted, spanned, measured, told_apart, by_column, width_with, kind_of, nothing_seen, is_filled, IsFresh}
use Rattle.column_taps.specs.Course.{going, over_at, course_of, course_after, MayGo}

counts_have_room : (seen_rows cells number : ℕ) (rows : List (List Datum)) → seen_rows + length rows < 2 ^ 62 → cells + sum_by length rows < 2 ^ 62
    → MayGo (course_after number (going (counted seen_rows cells)) rows)
counts_have_room seen_rows cells number [] few small = (omega arith, omega arith)
counts_have_room seen_rows cells number (row ∷ rows) few small =
    let more = sum_by-cons length row rows in
    let filled = count_by-le-length is_filled row in
    counts_have_room (seen_rows + 1) (cells + count_by is_filled row) (number + 1) rows (omega arith) (omega arith)

spans_have_room : (known : List (Option extents.Extent)) (number : ℕ) (rows : List (List Datum)) → MayGo (course_after number (going (spanned known)) rows)
spans_have_room known number [] = tt
spans_have_room known number (row ∷ rows) = spans_have_room (by_column extent_with known row) (number + 1) rows

widths_have_room : (known : List (Option widths.Width)) (number : ℕ) (rows : List (List Datum)) → MayGo (course_after number (going (measured known)) rows)
widths_have_room known number [] = tt
widths_have_room known number (row ∷ rows) = widths_have_room (by_column width_with known row) (number + 1) rows

-- what is over stays over
over_has_room : (earlier number : ℕ) (rows : List (List Datum)) → MayGo (course_after number (over_at earlier) rows)
over_has_room earlier number [] = tt
over_has_room earlier number (row ∷ rows) = over_has_room earlier (number + 1) rows

-- whether a row goes or not
bound_has_room : (number : ℕ) (seen : Seen) (small : Bool) (rows : List (List Datum)) → MayGo (course_after (number + 1) (going seen) rows)
    → MayGo (course_after (number + 1) (course_of number (if small then Some seen else None)) rows)
bound_has_room number seen true rows goes = goes
bound_has_room number seen false rows goes = over_has_room number (number + 1) rows

pairs_have_room : (most : ℕ) (pairs : List Pair) (number : ℕ) (rows : List (List Datum)) → MayGo (course_after number (going (told_apart most pairs)) rows)
pairs_have_room most pairs number [] = tt
pairs_have_room most pairs number (row ∷ rows) =
    let more = pairs_with 0 pairs row in
    bound_has_room number (told_apart most more) (nat_le (length more) most) rows (pairs_have_room most more (number + 1) rows)

kinds_have_room : (kind : TapKind) (number : ℕ) (rows : List (List Datum)) → length rows < 2 ^ 62 → sum_by length rows < 2 ^ 62 → MayGo (course_after number (going (nothing_seen kind)) rows)
kinds_have_room Count number rows few small = counts_have_room 0 0 number rows (omega arith) (omega arith)
kinds_have_room Span number rows few small = spans_have_room [] number rows
kinds_have_room Width number rows few small = widths_have_room [] number rows
kinds_have_room (Distinct most) number rows few small = pairs_have_room most [] number rows

pub rows_have_room : (seen : Seen) (number : ℕ) (rows : List (List Datum)) → IsFresh seen → length rows < 2 ^ 62 → sum_by length rows < 2 ^ 62 → MayGo (course_after number (going seen) rows)
rows_have_room seen number rows fresh few small = subst (λ s. MayGo (course_after number (going s) rows)) (sym fresh) (kinds_have_room (kind_of seen) number rows few small)
