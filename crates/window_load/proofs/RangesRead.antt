-- How far the ranges of the data are read in windows, turn by turn.
use Rattle.std.proofs.Common.{Bool, inl, inr, ◌⊎◌, ◌≡◌, ℕ, ◌+◌, ◌-◌, ◌<◌, ◌≤◌, true, List, [], ◌++◌, length, Option, refl, sym, ◌∙◌, ap, subst, arith}
use Rattle.std.specs.Prelude.{Some, option_map, slice_get}
use Rattle.csv_source.specs.Moves.{MovesFront}
use Rattle.quote_automaton.specs.declared.state.State.{State}
use Rattle.quote_automaton.specs.declared.state.State.TheVariants.{RowStart}
use Rattle.range_guess.specs.Cut.{range_count}
use Rattle.range_guess.specs.Span.{opening_in}
use Rattle.reject_book.specs.declared.book.Keep.TheVariants.{First}
use Rattle.reject_book.specs.declared.reject.Reject.{Reject}
use Rattle.reject_book.specs.BookView.{BookView}
use Rattle.reject_book.specs.Kept.{raised}
use Rattle.range_scan.specs.declared.context.Context.{Context}
use Rattle.range_scan.specs.declared.joined.Joined.{Joined}
use Rattle.range_guess.specs.declared.span.Span.{Span}
use Rattle.range_scan.specs.Joined.{IsJoinedPart, IsBegun}
use Rattle.range_scan.specs.Part.{Part}
use Rattle.range_scan.specs.Ranges.{AddsSpan, IsJoinedTo, ranges_part}
use Rattle.range_scan.proofs.RangeSteps.{none, begun, next_range, no_faults, first_reject_is, all_ranges}
use Rattle.value_types.specs.Datum.{Datum}
use Rattle.window_load.specs.declared.course.Course.{Course}
use Rattle.window_load.specs.declared.data_read.WindowRead.TheVariants as reads
use Rattle.window_load.specs.DataRead.{data_read, IsDataRead}
use Rattle.window_load.specs.Ranges.{begins_behind, span_in, range_reach}
use Rattle.window_load.specs.Reading.{MayGoOn, IsReadInWindows}
use Rattle.window_load.specs.Window.{WindowView, reach, behind_front, IsFilled}
use Rattle.window_load.proofs.RangeWindows.{is_one, inside, part_is, width_is, guess_is, all_ranges_read}
use Rattle.window_load.proofs.SoFar.{IsReadSoFar}
use Rattle.window_load.proofs.SoFar as so_far

-- the first k ranges are joined, which are ranges of the data, and where the reading stops at an error they have none
pub record AreRangesRead (context : Context) (course : Course) (k : ℕ) (joined : Joined) (text : List ℕ) : Type 0 where
  pub up : IsJoinedTo context text course.start course.range_size k joined
  pub few : k ≤ range_count (length text) course.range_size
  pub good : course.stop ≡ true → (ranges_part context text course.start course.range_size k).faults ≡ []

-- and the window stands at the next one
abbrev pub IsUpToRange : Context → Course → Option (List ℕ) → Option (List ℕ) → WindowView → WindowView → ℕ → ℕ → Joined → Type 0
IsUpToRange context course left_before left_after old w k at joined =
    IsReadSoFar (AreRangesRead context course k joined) course.start course.range_size left_before left_after old w k at

-- all ranges are the data
whole : (context : Context) (text : List ℕ) (course : Course) → 0 < course.range_size → (joined : Joined) →
    IsJoinedTo context text course.start course.range_size (range_count (length text) course.range_size) joined → (count : ℕ) → count ≡ length text →
    IsDataRead context text course.start course.range_size (data_read joined count course.range_size)
whole context text course some joined h count counted = record {
  part = subst (λ (p : Part (List Datum) Reject). IsJoinedPart context p joined) (all_ranges context text course.start course.range_size some) h.part;
  bytes = counted;
  ranges = ap (λ n. range_count n course.range_size) counted;
  rescanned_ranges = h.rescans;
  scanned = ap (λ n. length text + n) h.rescanned;
}

module _ (context : Context) (course : Course) (some : 0 < course.range_size) (left_before : Option (List ℕ)) (old : WindowView) where
  pub read_none : (joined : Joined) → old.base ≡ course.start → IsBegun context RowStart joined → IsUpToRange context course left_before left_before old old 0 0 joined
  read_none joined begins begin =
      so_far.read_none (AreRangesRead context course 0 joined) course.start course.range_size left_before old begins
      (λ text. record { up = begun context text course.start course.range_size joined begin; few = omega arith; good = λ stops. ap (λ (p : Part (List Datum) Reject). p.faults) (sym (none context text course.start course.range_size)) })

  module _ (left_after : Option (List ℕ)) (w : WindowView) (k at : ℕ) (joined : Joined) (r : IsUpToRange context course left_before left_after old w k at joined) where
    pub read_more : (left_next : Option (List ℕ)) (w2 : WindowView) → MovesFront left_after left_next w.kept w2.kept → w2.base ≡ w.base → w2.most ≡ w.most → (w.ended ≡ true → w2 ≡ w) →
        IsUpToRange context course left_before left_next old w2 k at joined
    read_more left_next w2 moves base most stays =
        so_far.read_more (AreRangesRead context course k joined) course.start course.range_size left_before left_after old w k at r left_next w2 moves base most stays

    -- its table and its book are those of the context
    pub are_types : joined.table.types ≡ context.schema.types
    are_types = (r.read [] (λ ended. refl)).up.part.types

    pub is_keep : joined.book.keep ≡ context.keep
    is_keep = ap (λ (b : BookView). b.keep) (r.read [] (λ ended. refl)).up.part.book

    -- all ranges are read
    pub read_all : (line : ℕ) → IsFilled (at + range_reach course.range_size line) w → at ≡ length w.kept → old.base ≡ course.start → (count : ℕ) → count ≡ reach w - course.start →
        IsReadInWindows context course left_before left_after old w (reads.All (data_read joined count course.range_size))
    read_all line filled over begins count counted = (
      r.came,
      r.taken,
      r.reached,
      r.quiet,
      λ more may.
          let text : List ℕ = (old.kept ++ r.came) ++ more in
          let h : AreRangesRead context course k joined text = r.read more may in
          let last : k ≡ range_count (length text) course.range_size =
          all_ranges_read course.start course.range_size k at (old.kept ++ r.came) w r.stands some line filled.0 over more may h.few in (
            whole context text course some joined (subst (λ n. IsJoinedTo context text course.start course.range_size n joined) last h.up) count
                (counted ∙ so_far.read_length (AreRangesRead context course k joined) course.start course.range_size left_before left_after old w k at r some line filled.0 over begins more may),
            λ stops. sym (ap (λ (p : Part (List Datum) Reject). p.faults) (ap (ranges_part context text course.start course.range_size) last ∙ all_ranges context text course.start course.range_size some)) ∙ h.good stops,
          ),
    )

    module _ (line : ℕ) (filled : IsFilled (at + range_reach course.range_size line) w) (there : at < length w.kept)
        (enough : (w.ended ≡ true) ⊎ ((context.schema.max_line_size ≤ line) ⊎ (begins_behind context.dialect w.kept (span_in at (length w.kept) course.range_size k) joined.end ≡ true)))
        (new : Joined)
        (adds : AddsSpan context w.kept w.base (span_in at (length w.kept) course.range_size k)
        (opening_in context.dialect w.kept (span_in at (length w.kept) course.range_size k) joined.end) joined new) where
      abbrev text : List ℕ
      text = old.kept ++ r.came

      abbrev span : Span
      span = span_in at (length w.kept) course.range_size k

      -- the next range is joined
      up_next : (more : List ℕ) → MayGoOn w more → IsJoinedTo context (text ++ more) course.start course.range_size (k + 1) new
      up_next more may =
          let h : IsJoinedTo context (text ++ more) course.start course.range_size k joined = (r.read more may).up in
          let within = inside course.start course.range_size k at text w r.stands some line filled.0 there more may in
          let part = part_is course.start course.range_size k at text w r.stands some line filled.0 there more may context joined.end enough in
          let width = width_is course.start course.range_size k at text w r.stands some line filled.0 there more may in
          let guessed = guess_is course.start course.range_size k at text w r.stands some line filled.0 there more may context in
          next_range context (text ++ more) course.start course.range_size k within joined h w.kept w.base span part width refl guessed new adds

      -- the reading goes on behind it
      pub read_next : (course.stop ≡ true → (context.keep ≡ First 1) × (length new.book.stored ≤ 0)) →
          IsUpToRange context course left_before left_after old (behind_front ((span_in at (length w.kept) course.range_size k).to - 1) w) (k + 1) 1 new
      read_next good =
          so_far.read_step (AreRangesRead context course k joined) course.start course.range_size left_before left_after old w k at r
          (AreRangesRead context course (k + 1) new) some line filled.0 there
          (λ more may h. record {
            up = up_next more may;
            few = is_one course.start course.range_size k at text w r.stands some line filled.0 there more may;
            good = λ stops. no_faults context (text ++ more) course.start course.range_size (k + 1) new (up_next more may) (good stops).0 (good stops).1;
          })

      pub read_in_next : (course.stop ≡ true → (context.keep ≡ First 1) × (length new.book.stored ≤ 0)) → (w2 : WindowView) (passed : Span) {len : ℕ} →
          passed ≡ span_in at len course.range_size k → len ≡ length w.kept → w2 ≡ behind_front (passed.to - 1) w → IsUpToRange context course left_before left_after old w2 (k + 1) 1 new
      read_in_next good w2 passed is_span is_len is_front =
          subst (λ v. IsUpToRange context course left_before left_after old v (k + 1) 1 new)
          (sym (is_front ∙ ap (λ (s : Span). behind_front (s.to - 1) w) (is_span ∙ ap (λ n. span_in at n course.range_size k) is_len)))
          (read_next good)

      -- it stops at it
      pub read_stopped : (stops : course.stop ≡ true) (keeps : context.keep ≡ First 1) → 0 < length new.book.stored → (reject : Reject) →
          option_map (raised 0) (slice_get new.book.stored 0) ≡ Some reject → IsReadInWindows context course left_before left_after old w (reads.Stopped reject)
      read_stopped stops keeps some_reject reject e = (
        r.came,
        r.taken,
        r.reached,
        r.quiet,
        λ more may. (stops, first_reject_is context (text ++ more) course.start course.range_size (k + 1) new (up_next more may) keeps some_reject reject e),
      )

-- a range that was read in a window of so many bytes
pub in_window : (context : Context) (kept : List ℕ) (place : ℕ) (read : Span) (at len size k : ℕ) (old new : Joined) → read ≡ span_in at len size k → len ≡ length kept →
    AddsSpan context kept place read (opening_in context.dialect kept read old.end) old new →
    AddsSpan context kept place (span_in at (length kept) size k) (opening_in context.dialect kept (span_in at (length kept) size k) old.end) old new
in_window context kept place read at len size k old new is_span is_len adds =
    subst (λ n. AddsSpan context kept place (span_in at n size k) (opening_in context.dialect kept (span_in at n size k) old.end) old new) is_len
    (subst (λ (s : Span). AddsSpan context kept place s (opening_in context.dialect kept s old.end) old new) is_span adds)

-- why a window is enough for it
pub enough_in : (context : Context) (w : WindowView) (read : Span) (at len size k : ℕ) (state : State) (line : ℕ) (far sure : Bool) → read ≡ span_in at len size k → len ≡ length w.kept →
    (far ≡ true → context.schema.max_line_size ≤ line) → (sure ≡ true → (far ≡ true) ⊎ (w.ended ≡ true)) → (sure ≡ true) ⊎ (begins_behind context.dialect w.kept read state ≡ true) →
    (w.ended ≡ true) ⊎ ((context.schema.max_line_size ≤ line) ⊎ (begins_behind context.dialect w.kept (span_in at (length w.kept) size k) state ≡ true))
enough_in context w read at len size k state line far sure is_span is_len long sure_if decided = elim decided [
  | inl told ↦ elim (sure_if told) [ inl is_far ↦ inr (inl (long is_far)) | inr ended ↦ inl ended ]
  | inr behind ↦ inr (inr (sym (ap (λ (s : Span). begins_behind context.dialect w.kept s state) (is_span ∙ ap (λ n. span_in at n size k) is_len)) ∙ behind))
]
