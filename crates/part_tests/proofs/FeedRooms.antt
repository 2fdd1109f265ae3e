-- Room in taps that are shown rows of two cells one by one.
use Rattle.std.proofs.Common.{◌≡◌, ℕ, ◌+◌, ◌≤◌, List, [], ◌∷◌, length, map, subst, arith}
use Rattle.std.specs.Prelude.{All}
use Rattle.std.proofs.lemmas.List.Elements.{All-nil, All-cons, All-map, All-weaker}
use Rattle.value_types.specs.Datum.{Datum}
use Rattle.column_taps.specs.Course.{Course, course_next}
use Rattle.column_taps.specs.Shown.{MayGoOn}
use Rattle.column_taps.proofs.CourseRooms.{rows_leave_room}

-- a row leaves room for those behind it
pub row_leaves_room : (m n number : ℕ) (row : List Datum) (cs : List Course) → m ≡ n + 1 → length row ≡ 2 → All (MayGoOn m 2) cs → All (MayGoOn n 2) (map (λ c. course_next number c row) cs)
row_leaves_room m n number row cs some two room =
    let narrow : All (λ (r : List Datum). length r ≤ 2) (row ∷ []) = All-cons (λ (r : List Datum). length r ≤ 2) row [] (omega (arith, two)) (All-nil (λ (r : List Datum). length r ≤ 2)) in
    let more : m ≡ length (row ∷ []) + n = omega (arith, some) in
    All-map (MayGoOn n 2) (λ c. course_next number c row) cs
    (All-weaker (MayGoOn m 2) (λ c. MayGoOn n 2 (course_next number c row)) (λ c has. rows_leave_room n 2 number c (row ∷ []) narrow (subst (λ k. MayGoOn k 2 c) more has)) cs room)
