-- Rows of columns, shown one after another.
use Rattle.std.proofs.Common.{◌≡◌, ℕ, zero, suc, ◌+◌, ◌-◌, ◌*◌, ◌<◌, ◌≤◌, Bool, true, false, List, [], ◌∷◌, ◌++◌, Option, Some, None, length, take, map, get_or, refl, sym, ap, subst, ◌∙◌, add-one, arith}
use Rattle.std.specs.Prelude.{slice_get, count_by, if◌then◌else◌, nat_le}
use Rattle.std.proofs.lemmas.List.Sums.{count_by-le-length}
use Rattle.std.proofs.lemmas.List.FromFn.{length-map-range_with_len, get_or-map-range_with_len}
use Rattle.std.proofs.lemmas.List.{take_all}
use Rattle.value_types.specs.Datum.{Datum, null}
use Rattle.value_types.specs.declared.views.ColumnView.{ColumnView}
use Rattle.value_types.specs.Views.{row_at, view_cells, view_rows}
use Rattle.value_types.specs.Extent.{extent_with}
use Rattle.column_taps.specs.Pairs.{pairs_with}
use Rattle.column_taps.specs.Seen.{Seen, counted, spanned, measured, told_apart, step, is_filled, by_column, width_with, HasRoom}
use Rattle.column_taps.specs.Shown.{one_row_more, shown_rows, HasRoomForRows}

got : (xs : List Datum) (k : ℕ) (cell : Datum) → slice_get xs k ≡ Some cell → get_or xs k null ≡ cell
got [] k cell at = absurd (let no : ⊥ = cc in no)
got (x ∷ xs) zero cell at = cc
got (x ∷ xs) (suc k) cell at = got xs k cell at

module _ {X : Type 0} (cells_of : X → List Datum) (row : ℕ) where
  cells_suc : (columns : List X) (i : ℕ) (d : X) → i < length columns
      → take (suc i) (row_at (map cells_of columns) row) ≡ take i (row_at (map cells_of columns) row) ++ get_or (cells_of (get_or columns i d)) row null ∷ []
  cells_suc [] i d within = absurd (let no : ⊥ = omega (arith, within) in no)
  cells_suc (x ∷ columns) zero d within = refl
  cells_suc (x ∷ columns) (suc i) d within = ap (λ rest. get_or (cells_of x) row null ∷ rest) (cells_suc columns i d (omega (arith, within)))

  -- one cell more of a row
  pub cell_more : (columns : List X) (i : ℕ) (column : X) (now more : List Datum) (cell : Datum) → i < length columns → column ≡ get_or columns i column → slice_get (cells_of column) row ≡ Some cell
      → now ≡ take i (row_at (map cells_of columns) row) → more ≡ now ++ cell ∷ [] → more ≡ take (i + 1) (row_at (map cells_of columns) row)
  cell_more columns i column now more cell within is at so_far pushed = rw add-one
      (pushed ∙ (λ j. so_far j ++ sym (ap (λ x. get_or (cells_of x) row null) (sym is) ∙ got (cells_of column) row cell at) j ∷ []) ∙ sym (cells_suc columns i column within))

  width : (columns : List X) → length (row_at (map cells_of columns) row) ≡ length columns
  width [] = refl
  width (x ∷ columns) = ap suc (width columns)

  -- all cells of a row
  pub all_cells : (columns : List X) (n : ℕ) (now : List Datum) → length columns ≤ n → now ≡ take n (row_at (map cells_of columns) row) → now ≡ row_at (map cells_of columns) row
  all_cells columns n now past is = let long = width columns in is ∙ take_all n (row_at (map cells_of columns) row) (omega (arith, long, past))

-- ---- rows that go one after another

abbrev pub behind : Seen → List (List Datum) → Option Seen → ℕ × Seen
behind old rows o = elim o [ Some after ↦ one_row_more (shown_rows after rows) | None ↦ (0, old) ]

behind_first : (old now new : Seen) (some more : List (List Datum)) (k m : ℕ) (o : Option Seen) → ((after : Seen) → (k, now) ≡ shown_rows after some → (m, new) ≡ shown_rows after more)
    → (suc k, now) ≡ behind old some o → (suc m, new) ≡ behind old more o
behind_first old now new some more k m None goes is =
    let zero_is : suc k ≡ 0 = ap (λ (p : ℕ × Seen). p.0) is in
    absurd (let no : ⊥ = omega (arith, zero_is) in no)
behind_first old now new some more k m (Some after) goes is =
    let counts : suc k ≡ suc (shown_rows after some).0 = ap (λ (p : ℕ × Seen). p.0) is in
    let count : k ≡ (shown_rows after some).0 = omega (arith, counts) in
    let seen : now ≡ (shown_rows after some).1 = ap (λ (p : ℕ × Seen). p.1) is in
    ap one_row_more (goes after (λ i. (count i, seen i)))

-- a row goes behind rows that all went
pub row_goes : (old now new : Seen) (rows : List (List Datum)) (k : ℕ) → k < length rows → (k, now) ≡ shown_rows old (take k rows) → step now (get_or rows k []) ≡ Some new
    → (suc k, new) ≡ shown_rows old (take (suc k) rows)
row_goes old now new [] k within went goes = absurd (let no : ⊥ = omega (arith, within) in no)
row_goes old now new (row ∷ rows) zero within went goes =
    let same : now ≡ old = ap (λ (p : ℕ × Seen). p.1) went in
    ap (behind old []) (sym goes ∙ ap (λ s. step s row) same)
row_goes old now new (row ∷ rows) (suc k) within went goes =
    behind_first old now new (take k rows) (take (suc k) rows) k (suc k) (step old row) (λ after is. row_goes after now new rows k (omega (arith, within)) is goes) went

-- a row is over behind rows that all went
pub row_is_over : (old now : Seen) (rows : List (List Datum)) (k : ℕ) → k < length rows → (k, now) ≡ shown_rows old (take k rows) → step now (get_or rows k []) ≡ None
    → (k, now) ≡ shown_rows old rows
row_is_over old now [] k within went stops = absurd (let no : ⊥ = omega (arith, within) in no)
row_is_over old now (row ∷ rows) zero within went stops =
    let same : now ≡ old = ap (λ (p : ℕ × Seen). p.1) went in
    went ∙ ap (behind old rows) (sym stops ∙ ap (λ s. step s row) same)
row_is_over old now (row ∷ rows) (suc k) within went stops =
    behind_first old now now (take k rows) rows k k (step old row) (λ after is. row_is_over after now rows k (omega (arith, within)) is stops) went

-- ---- room for the rows that are left

one_more_has_room : (now : Seen) (left columns : ℕ) → 1 ≤ left → HasRoomForRows left columns now → HasRoom now
one_more_has_room (counted rows cells) left columns some room =
    (omega (arith, room.0, some), omega (arith, room.1))
one_more_has_room (spanned extents) left columns some room = tt
one_more_has_room (measured widths) left columns some room = tt
one_more_has_room (told_apart most pairs) left columns some room = tt

pub room_for_one : (now : Seen) (row rows columns : ℕ) → row < rows → HasRoomForRows (rows - row) columns now → HasRoom now
room_for_one now row rows columns below room = one_more_has_room now (rows - row) columns (omega (arith, below)) room

room_bound : (small : Bool) (count columns : ℕ) (seen new : Seen) → HasRoomForRows count columns seen → (if small then Some seen else None) ≡ Some new → HasRoomForRows count columns new
room_bound true count columns seen new room is = let same : seen ≡ new = cc in subst (HasRoomForRows count columns) same room
room_bound false count columns seen new room is = absurd (let no : ⊥ = cc in no)

pub room_goes : (now new : Seen) (row : List Datum) (count columns : ℕ) → length row ≤ columns → HasRoomForRows (suc count) columns now → step now row ≡ Some new → HasRoomForRows count columns new
room_goes (counted rows cells) new row count columns narrow room goes =
    let filled = count_by-le-length is_filled row in
    let all : suc count * columns ≡ columns + count * columns = omega arith in
    let same : counted (rows + 1) (cells + count_by is_filled row) ≡ new = cc in
    subst (HasRoomForRows count columns) same (omega (arith, room.0), omega (arith, room.1, filled, narrow, all))
room_goes (spanned extents) new row count columns narrow room goes =
    let same : spanned (by_column extent_with extents row) ≡ new = cc in
    subst (HasRoomForRows count columns) same tt
room_goes (measured widths) new row count columns narrow room goes =
    let same : measured (by_column width_with widths row) ≡ new = cc in
    subst (HasRoomForRows count columns) same tt
room_goes (told_apart most pairs) new row count columns narrow room goes =
    room_bound (nat_le (length (pairs_with 0 pairs row)) most) count columns (told_apart most (pairs_with 0 pairs row)) new tt goes

-- ---- the rows of columns

module _ (columns : List ColumnView) (rows : ℕ) where
  pub many : length (view_rows columns rows) ≡ rows
  many = length-map-range_with_len (row_at (map view_cells columns)) 0 rows

  one_of : (k : ℕ) → k < rows → get_or (view_rows columns rows) k [] ≡ row_at (map view_cells columns) k
  one_of k below = get_or-map-range_with_len (row_at (map view_cells columns)) 0 rows k k [] below (omega arith)

  pub row_goes_in : (old now new : Seen) (k : ℕ) (row : List Datum) → k < rows → row ≡ row_at (map view_cells columns) k → (k, now) ≡ shown_rows old (take k (view_rows columns rows))
      → step now row ≡ Some new → (k + 1, new) ≡ shown_rows old (take (k + 1) (view_rows columns rows))
  row_goes_in old now new k row below is went goes =
      rw add-one (row_goes old now new (view_rows columns rows) k (omega (arith, many, below)) went (ap (step now) (one_of k below ∙ sym is) ∙ goes))

  pub row_is_over_in : (old now new : Seen) (k : ℕ) (row : List Datum) → k < rows → row ≡ row_at (map view_cells columns) k → (k, now) ≡ shown_rows old (take k (view_rows columns rows))
      → step now row ≡ None → new ≡ now → (k, new) ≡ shown_rows old (view_rows columns rows)
  row_is_over_in old now new k row below is went stops same =
      (λ i. (k, same i)) ∙ row_is_over old now (view_rows columns rows) k (omega (arith, many, below)) went (ap (step now) (one_of k below ∙ sym is) ∙ stops)

  pub room_left : (now new : Seen) (k : ℕ) (row : List Datum) → k < rows → row ≡ row_at (map view_cells columns) k → HasRoomForRows (rows - k) (length columns) now → step now row ≡ Some new
      → HasRoomForRows (rows - (k + 1)) (length columns) new
  room_left now new k row below is room goes =
      let long = ap length is ∙ width view_cells k columns in
      let left : rows - k ≡ suc (rows - (k + 1)) = omega (arith, below) in
      room_goes now new row (rows - (k + 1)) (length columns) (omega (arith, long)) (subst (λ n. HasRoomForRows n (length columns) now) left room) goes

  pub all_went : (old now : Seen) (k : ℕ) → rows ≤ k → k ≤ rows → (k, now) ≡ shown_rows old (take k (view_rows columns rows)) → (rows, now) ≡ shown_rows old (view_rows columns rows)
  all_went old now k past within went =
      let same : rows ≡ k = omega (arith, past, within) in
      (λ i. (same i, now)) ∙ went ∙ ap (shown_rows old) (take_all k (view_rows columns rows) (omega (arith, many, past)))
