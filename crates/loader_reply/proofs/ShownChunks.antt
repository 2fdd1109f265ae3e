-- Taps that are shown the chunks of a table, and their lines.
use Rattle.std.proofs.Common.{◌≡◌, ℕ, suc, ◌+◌, ◌*◌, ◌^◌, ◌<◌, ◌≤◌, true, List, [], ◌∷◌, ◌++◌, length, take, drop, map, get_or, refl, sym, ap, ◌∙◌, subst, arith, append_assoc, append-nil, drop-cons, flat_map}
use Rattle.std.specs.Prelude.{All}
use Rattle.std.proofs.Math.Seq.{take-append_seam}
use Rattle.std.proofs.lemmas.List.{take_all, take_more, take-append-drop, length-append}
use Rattle.std.proofs.lemmas.Grind.{flat_map-append}
use Rattle.std.proofs.lemmas.List.Concat.{flat_map-cons}
use Rattle.std.proofs.lemmas.List.Elements.{All-map, All-take, All-weaker}
use Rattle.std.proofs.lemmas.List.Folds.{flat_map-map}
use Rattle.std.proofs.lemmas.Simd.{map-map}
use Rattle.value_types.specs.declared.types.ColumnType.{ColumnType}
use Rattle.value_types.specs.Datum.{Datum}
use Rattle.value_types.specs.OfType.{fit_all}
use Rattle.value_types.proofs.RowFits.{fit_lengths}
use Rattle.column_store.specs.ChunkView.{ChunkView}
use Rattle.column_store.specs.Stacked.{rows_in}
use Rattle.column_taps.specs.Seen.{Seen, IsFresh}
use Rattle.column_taps.specs.Course.{Course, going, course_after, course_lines}
use Rattle.column_taps.specs.Shown.{MayGoOn}
use Rattle.column_taps.proofs.CourseRooms.{fewer_have_room, rows_leave_room, fresh_have_room, course_after-append}
use Rattle.loader_reply.specs.Showing.{tap_lines}

-- ---- the chunks of a table are shown one after another

-- the courses behind some rows, the first of which has the number
abbrev pub all_after : ℕ → List Course → List (List Datum) → List Course
all_after number courses rows = map (λ c. course_after number c rows) courses

rows_at : (chunks : List ChunkView) (k : ℕ) (d : ChunkView) → k < length chunks
    → rows_in chunks ≡ rows_in (take k chunks) ++ ((get_or chunks k d).rows ++ rows_in (drop (suc k) chunks))
rows_at chunks k d within =
    ap rows_in (sym (take-append-drop k chunks)) ∙ flat_map-append (λ (chunk : ChunkView). chunk.rows) (take k chunks) (drop k chunks)
    ∙ ap (λ cs. rows_in (take k chunks) ++ rows_in cs) (drop-cons chunks k d within)
    ∙ ap (λ rs. rows_in (take k chunks) ++ rs) (flat_map-cons (λ (chunk : ChunkView). chunk.rows) (get_or chunks k d) (drop (suc k) chunks))

rows_up_to : (chunks : List ChunkView) (k : ℕ) (d : ChunkView) → k < length chunks → rows_in (take (k + 1) chunks) ≡ rows_in (take k chunks) ++ (get_or chunks k d).rows
rows_up_to chunks k d within =
    ap rows_in (take_more chunks k d within) ∙ flat_map-append (λ (chunk : ChunkView). chunk.rows) (take k chunks) (get_or chunks k d ∷ [])
    ∙ ap (λ rs. rows_in (take k chunks) ++ rs) (flat_map-cons (λ (chunk : ChunkView). chunk.rows) (get_or chunks k d) [] ∙ append-nil ((get_or chunks k d).rows))

-- rows that stand before others can be shown as well
chunk_room : (front rows behind : List (List Datum)) (number width : ℕ) (olds before : List Course) → All (λ row. length row ≤ width) front
    → All (MayGoOn (length (front ++ (rows ++ behind))) width) olds → before ≡ all_after number olds front → All (MayGoOn (length rows) width) before
chunk_room front rows behind number width olds before narrow room so_far =
    let all : length (front ++ (rows ++ behind)) ≡ length front + (length rows + length behind) = length-append front (rows ++ behind) ∙ ap (λ n. length front + n) (length-append rows behind) in
    let some : length rows ≤ length rows + length behind = omega arith in
    subst (All (MayGoOn (length rows) width)) (sym so_far)
    (All-map (MayGoOn (length rows) width) (λ c. course_after number c front) olds
    (All-weaker (MayGoOn (length (front ++ (rows ++ behind))) width) (λ c. MayGoOn (length rows) width (course_after number c front))
    (λ c has. fewer_have_room (length rows) (length rows + length behind) width (course_after number c front) some
    (rows_leave_room (length rows + length behind) width number c front narrow (subst (λ n. MayGoOn n width c) all has))) olds room))

shown_behind : (front rows : List (List Datum)) (number next : ℕ) (olds before after : List Course) → next ≡ number + length front → before ≡ all_after number olds front
    → after ≡ all_after next before rows → after ≡ all_after number olds (front ++ rows)
shown_behind front rows number next olds before after place so_far shown =
    shown ∙ (λ i. all_after (place i) (so_far i) rows) ∙ map-map (λ c. course_after (number + length front) c rows) (λ c. course_after number c front) olds
    ∙ (λ i. map (λ c. sym (course_after-append number c front rows) i) olds)

-- ---- a table that can be counted

-- nothing is shown yet
pub none_shown : (courses : List Course) → courses ≡ all_after 1 courses []
none_shown [] = refl
none_shown (c ∷ courses) = ap (λ others. c ∷ others) (none_shown courses)

-- taps that have seen nothing have room for all rows
pub new_have_room : (count width : ℕ) (courses : List Course) (taps : List Seen) → count < 2 ^ 62 → count * width < 2 ^ 62 → courses ≡ map going taps → All IsFresh taps
    → All (MayGoOn count width) courses
new_have_room count width courses taps few small same fresh =
    subst (All (MayGoOn count width)) (sym same)
    (All-map (MayGoOn count width) going taps (All-weaker IsFresh (λ s. MayGoOn count width (going s)) (λ s is. fresh_have_room count width s few small is) taps fresh))

module _ (tys : List ColumnType) (rows : List (List Datum)) (earlier : List ChunkView) (last : ChunkView) (split : rows ≡ rows_in earlier ++ last.rows)
    (fit : All (λ cells. fit_all tys cells ≡ true) rows) (few : length rows < 2 ^ 62) (olds : List Course) (room : All (MayGoOn (length rows) (length tys)) olds) where
  narrow : All (λ row. length row ≤ length tys) rows
  narrow = All-weaker (λ cells. fit_all tys cells ≡ true) (λ row. length row ≤ length tys) (λ row is. let same = fit_lengths tys row is in omega (arith, same)) rows fit

  room_in : (front some behind : List (List Datum)) (before : List Course) → rows ≡ front ++ (some ++ behind) → before ≡ all_after 1 olds front → All (MayGoOn (length some) (length tys)) before
  room_in front some behind before is so_far =
      chunk_room front some behind 1 (length tys) olds before
      (subst (All (λ row. length row ≤ length tys)) (ap (take (length front)) is ∙ take-append_seam front (some ++ behind)) (All-take (λ row. length row ≤ length tys) (length front) rows narrow))
      (subst (λ (rs : List (List Datum)). All (MayGoOn (length rs) (length tys)) olds) is room) so_far

  numbers_in : (front some behind : List (List Datum)) (number : ℕ) → rows ≡ front ++ (some ++ behind) → number ≡ 1 + length front → number + length some < 2 ^ 64
  numbers_in front some behind number is place =
      let all : length rows ≡ length front + (length some + length behind) = ap length is ∙ length-append front (some ++ behind) ∙ ap (λ n. length front + n) (length-append some behind) in
      omega (arith, all, place, few)

  -- the chunk at a place
  module _ (k : ℕ) (chunk : ChunkView) (within : k < length earlier) (is : chunk ≡ get_or earlier k chunk) where
    abbrev behind : List (List Datum)
    behind = rows_in (drop (suc k) earlier) ++ last.rows

    chunk_split : rows ≡ rows_in (take k earlier) ++ (chunk.rows ++ behind)
    chunk_split =
        split ∙ ap (λ rs. rs ++ last.rows) (rows_at earlier k chunk within)
        ∙ append_assoc (rows_in (take k earlier)) ((get_or earlier k chunk).rows ++ rows_in (drop (suc k) earlier)) last.rows
        ∙ ap (λ rs. rows_in (take k earlier) ++ rs) (append_assoc ((get_or earlier k chunk).rows) (rows_in (drop (suc k) earlier)) last.rows)
        ∙ ap (λ (c : ChunkView). rows_in (take k earlier) ++ (c.rows ++ behind)) (sym is)

    pub types_of_chunk : All (λ (c : ChunkView). c.types ≡ tys) earlier → chunk.types ≡ tys
    types_of_chunk types = ap (λ (c : ChunkView). c.types) is ∙ types k chunk within

    pub room_of_chunk : (before : List Course) → All (λ (c : ChunkView). c.types ≡ tys) earlier → before ≡ all_after 1 olds (rows_in (take k earlier))
        → All (MayGoOn (length chunk.rows) (length chunk.types)) before
    room_of_chunk before types so_far =
        subst (λ (n : ℕ). All (MayGoOn (length chunk.rows) n) before) (sym (ap length (types_of_chunk types)))
        (room_in (rows_in (take k earlier)) chunk.rows behind before chunk_split so_far)

    pub numbers_of_chunk : (number : ℕ) → number ≡ 1 + length (rows_in (take k earlier)) → number + length chunk.rows < 2 ^ 64
    numbers_of_chunk number place = numbers_in (rows_in (take k earlier)) chunk.rows behind number chunk_split place

    up_to : rows_in (take k earlier) ++ chunk.rows ≡ rows_in (take (k + 1) earlier)
    up_to = ap (λ (c : ChunkView). rows_in (take k earlier) ++ c.rows) is ∙ sym (rows_up_to earlier k chunk within)

    pub next_number : (number : ℕ) → number ≡ 1 + length (rows_in (take k earlier)) → number + length chunk.rows ≡ 1 + length (rows_in (take (k + 1) earlier))
    next_number number place =
        let longer : length (rows_in (take (k + 1) earlier)) ≡ length (rows_in (take k earlier)) + length chunk.rows = ap length (sym up_to) ∙ length-append (rows_in (take k earlier)) chunk.rows in
        omega (arith, place, longer)

    pub chunk_more : (number : ℕ) (before after : List Course) → number ≡ 1 + length (rows_in (take k earlier)) → before ≡ all_after 1 olds (rows_in (take k earlier))
        → after ≡ all_after number before chunk.rows → after ≡ all_after 1 olds (rows_in (take (k + 1) earlier))
    chunk_more number before after place so_far shown =
        shown_behind (rows_in (take k earlier)) chunk.rows 1 number olds before after place so_far shown ∙ ap (all_after 1 olds) up_to

  -- the last chunk
  last_split : rows ≡ rows_in earlier ++ (last.rows ++ [])
  last_split = split ∙ ap (λ rs. rows_in earlier ++ rs) (sym (append-nil last.rows))

  module _ (number : ℕ) (before : List Course) (n : ℕ) (past : length earlier ≤ n) (place : number ≡ 1 + length (rows_in (take n earlier))) (so_far : before ≡ all_after 1 olds (rows_in (take n earlier))) where
    all_earlier : rows_in (take n earlier) ≡ rows_in earlier
    all_earlier = ap rows_in (take_all n earlier past)

    pub room_of_last : last.types ≡ tys → All (MayGoOn (length last.rows) (length last.types)) before
    room_of_last same =
        subst (λ (w : ℕ). All (MayGoOn (length last.rows) w) before) (sym (ap length same))
        (room_in (rows_in earlier) last.rows [] before last_split (so_far ∙ ap (all_after 1 olds) all_earlier))

    pub numbers_of_last : number + length last.rows < 2 ^ 64
    numbers_of_last = numbers_in (rows_in earlier) last.rows [] number last_split (place ∙ ap (λ (rs : List (List Datum)). 1 + length rs) all_earlier)

    pub all_shown : (after : List Course) → after ≡ all_after number before last.rows → after ≡ all_after 1 olds rows
    all_shown after shown =
        shown_behind (rows_in earlier) last.rows 1 number olds before after (place ∙ ap (λ (rs : List (List Datum)). 1 + length rs) all_earlier) (so_far ∙ ap (all_after 1 olds) all_earlier) shown
        ∙ ap (all_after 1 olds) (sym split)

-- ---- the lines of taps

-- what the slots write in the end
pub all_lines : (courses olds : List Course) (taps : List Seen) (rows : List (List Datum)) → courses ≡ all_after 1 olds rows → olds ≡ map going taps
    → flat_map course_lines courses ≡ tap_lines taps rows
all_lines courses olds taps rows shown same =
    ap (flat_map course_lines) (shown ∙ ap (λ cs. all_after 1 cs rows) same)
    ∙ flat_map-map course_lines (λ c. course_after 1 c rows) (map going taps) ∙ flat_map-map (λ c. course_lines (course_after 1 c rows)) going taps

-- what was lent is written back
pub written_back : {T : Type 0} (len : ℕ) (new items now : List T) → length new ≡ len → now ≡ take len (new ++ drop (length new) items) → now ≡ new
written_back len new items now same is =
    is ∙ ap (λ n. take n (new ++ drop (length new) items)) (sym same) ∙ take-append_seam new (drop (length new) items)
