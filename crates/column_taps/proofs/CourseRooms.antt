-- Room on the course of a tap, for the rows that are left.
use Rattle.std.proofs.Common.{◌≡◌, ℕ, suc, ◌+◌, ◌*◌, ◌^◌, ◌<◌, ◌≤◌, List, [], ◌∷◌, ◌++◌, Option, Some, None, length, refl, sym, ap, subst, ◌∙◌, arith}
use Rattle.std.specs.Prelude.{All}
use Rattle.std.proofs.Math.Nat.{mul-le-mul_right}
use Rattle.std.proofs.lemmas.List.Elements.{All-head, All-tail}
use Rattle.value_types.specs.Datum.{Datum}
use Rattle.column_taps.specs.declared.kind.TapKind.{TapKind}
use Rattle.column_taps.specs.declared.kind.TapKind.TheVariants.{Count, Span, Width, Distinct}
use Rattle.column_taps.specs.Seen.{Seen, counted, spanned, measured, told_apart, step, kind_of, nothing_seen, IsFresh}
use Rattle.column_taps.specs.Course.{Course, going, over_at, course_of, course_next, course_after}
use Rattle.column_taps.specs.Shown.{HasRoomForRows, MayGoOn}
use Rattle.column_taps.proofs.ShownSteps.{room_goes}

-- room for some rows is room for fewer
pub fewer_have_room : (n m width : ℕ) (c : Course) → n ≤ m → MayGoOn m width c → MayGoOn n width c
fewer_have_room n m width (going (counted rows cells)) less room =
    let all : n * width ≤ m * width = mul-le-mul_right width less in
    (omega (arith, less, room.0), omega (arith, all, room.1))
fewer_have_room n m width (going (spanned extents)) less room = tt
fewer_have_room n m width (going (measured widths)) less room = tt
fewer_have_room n m width (going (told_apart most pairs)) less room = tt
fewer_have_room n m width (over_at row) less room = tt

goes_next : (n width number : ℕ) (seen : Seen) (row : List Datum) (o : Option Seen) → step seen row ≡ o → length row ≤ width → HasRoomForRows (suc n) width seen → MayGoOn n width (course_of number o)
goes_next n width number seen row None is narrow room = tt
goes_next n width number seen row (Some after) is narrow room = room_goes seen after row n width narrow room is

one_leaves_room : (n width number : ℕ) (c : Course) (row : List Datum) → length row ≤ width → MayGoOn (suc n) width c → MayGoOn n width (course_next number c row)
one_leaves_room n width number (going seen) row narrow room = goes_next n width number seen row (step seen row) refl narrow room
one_leaves_room n width number (over_at earlier) row narrow room = tt

-- rows leave room for those behind them
pub rows_leave_room : (n width number : ℕ) (c : Course) (rows : List (List Datum)) → All (λ row. length row ≤ width) rows → MayGoOn (length rows + n) width c
    → MayGoOn n width (course_after number c rows)
rows_leave_room n width number c [] narrow room =
    let none : 0 + n ≡ n = omega arith in
    subst (λ m. MayGoOn m width c) none room
rows_leave_room n width number c (row ∷ rows) narrow room =
    let more : suc (length rows) + n ≡ suc (length rows + n) = omega arith in
    rows_leave_room n width (number + 1) (course_next number c row) rows (All-tail (λ row. length row ≤ width) row rows narrow)
    (one_leaves_room (length rows + n) width number c row (All-head (λ row. length row ≤ width) row rows narrow) (subst (λ m. MayGoOn m width c) more room))

kinds_have_room : (kind : TapKind) (count width : ℕ) → count < 2 ^ 62 → count * width < 2 ^ 62 → MayGoOn count width (going (nothing_seen kind))
kinds_have_room Count count width few small = (omega (arith, few), omega (arith, small))
kinds_have_room Span count width few small = tt
kinds_have_room Width count width few small = tt
kinds_have_room (Distinct most) count width few small = tt

-- a tap that has seen nothing has room for rows that can be counted
pub fresh_have_room : (count width : ℕ) (seen : Seen) → count < 2 ^ 62 → count * width < 2 ^ 62 → IsFresh seen → MayGoOn count width (going seen)
fresh_have_room count width seen few small fresh = subst (λ s. MayGoOn count width (going s)) (sym fresh) (kinds_have_room (kind_of seen) count width few small)

-- a course over rows, and over others behind them
pub course_after-append : (number : ℕ) (c : Course) (xs ys : List (List Datum)) → course_after number c (xs ++ ys) ≡ course_after (number + length xs) (course_after number c xs) ys
course_after-append number c [] ys =
    let none : number ≡ number + 0 = omega arith in
    ap (λ n. course_after n c ys) none
course_after-append number c (x ∷ xs) ys =
    let more : number + 1 + length xs ≡ number + suc (length xs) = omega arith in
    course_after-append (number + 1) (course_next number c x) xs ys ∙ ap (λ n. course_after n (course_after (number + 1) (course_next number c x) xs) ys) more
