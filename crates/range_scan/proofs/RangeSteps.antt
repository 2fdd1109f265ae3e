-- The first ranges of some data, and one more: what is joined with it.
use Rattle.std.proofs.Common.{◌≡◌, ℕ, ◌+◌, ◌-◌, ◌*◌, ◌%◌, ◌<◌, ◌≤◌, min, Bool, true, false, not, cond, List, [], ◌∷◌, ◌++◌, map, length, take, Some, refl, sym, ap, subst, ◌∙◌, arith, length-append}
use Rattle.std.specs.Prelude.{◌==◌, filter, sum_by, option_map, slice_get, Option, None}
use Rattle.std.specs.List.{range_with_len}
use Rattle.std.proofs.lemmas.List.Elements.{filter-append}
use Rattle.std.proofs.lemmas.List.FromFn.{map-range_with_len_more}
use Rattle.std.proofs.lemmas.List.Sums.{sum_by-append, sum_by-cons}
use Rattle.byte_classes.specs.Dialect.{Marks}
use Rattle.byte_classes.specs.Places.{byte_before}
use Rattle.quote_automaton.specs.declared.state.State.{State}
use Rattle.quote_automaton.specs.declared.state.State.TheVariants.{RowStart}
use Rattle.quote_automaton.specs.Automaton.{state_after, same_state}
use Rattle.value_types.specs.Datum.{Datum}
use Rattle.range_guess.specs.Cut.{range_count, group_len}
use Rattle.range_guess.specs.Guess.{guess}
use Rattle.range_guess.specs.Rescans.{range_bytes, true_opening, is_again, is_rescanned, first_rescanned}
use Rattle.range_guess.specs.Span.{guess_of, opening_in}
use Rattle.reject_book.specs.declared.book.Keep.{Keep}
use Rattle.reject_book.specs.declared.book.Keep.TheVariants.{First}
use Rattle.reject_book.specs.declared.reject.Reject.{Reject}
use Rattle.reject_book.specs.BookView.{BookView}
use Rattle.reject_book.specs.Kept.{book_of, raised}
use Rattle.reject_book.proofs.KeptFronts.{first_kept}
use Rattle.range_scan.specs.declared.context.Context.{Context}
use Rattle.range_scan.specs.declared.joined.Joined.{Joined}
use Rattle.range_guess.specs.declared.span.Span.{Span}
use Rattle.range_scan.specs.Joined.{IsJoinedPart, IsBegun, IsOfRange, IsAppended}
use Rattle.csv_source.specs.Lists.{is_empty}
use Rattle.range_scan.specs.Part.{Part, part_of, join, no_part, is_bad}
use Rattle.range_scan.specs.Scanned.{Scanned, judge_in, span_part, scanned}
use Rattle.range_scan.proofs.BadLaws.{first_fault_left}
use Rattle.range_scan.proofs.JoinedParts.{range_is_part, appended_is_part}
use Rattle.range_scan.proofs.JoinLaws.{part_of-join}
use Rattle.range_scan.proofs.JudgeLaws.{rows_are_judged_alike}
use Rattle.range_scan.proofs.RangeLaws.{no_part_at}
use Rattle.range_guess.proofs.CutLaws.{count_covers}
use Rattle.range_scan.specs.Ranges.{AddsSpan, IsJoinedTo, ranges_end, ranges_part}

-- ---- the numbers of the first ranges, and a number that counts or not

ranges-more : (k : ℕ) → range_with_len 0 (k + 1) ≡ range_with_len 0 k ++ k ∷ []
ranges-more k = sym (map-same (range_with_len 0 (k + 1))) ∙ map-range_with_len_more (λ i. i) 0 k k (let e : 0 + k ≡ k = omega arith in e) ∙ ap (λ l. l ++ k ∷ []) (map-same (range_with_len 0 k))
  where
    map-same : (l : List ℕ) → map (λ i. i) l ≡ l
    map-same [] = refl
    map-same (x ∷ l) = ap (λ r. x ∷ r) (map-same l)

one_if : (b : Bool) (k : ℕ) → length (cond b (k ∷ []) []) ≡ cond {A = ℕ} b 1 0
one_if true k = refl
one_if false k = refl

sum_if : (f : ℕ → ℕ) (b : Bool) (k : ℕ) → sum_by f (cond b (k ∷ []) []) ≡ cond {A = ℕ} b (f k) 0
sum_if f true k = omega (arith, sum_by-cons f k [])
sum_if f false k = refl

-- ---- what a book that keeps one reject tells of all

some_stored : (rs : List Reject) → 0 < length (take 1 rs) → not (is_empty rs) ≡ true
some_stored [] some = absurd (let wrong : ⊥ = omega (arith, some) in wrong)
some_stored (r ∷ rs) some = refl

none_stored : (rs : List Reject) → length (take 1 rs) ≤ 0 → rs ≡ []
none_stored [] none = refl
none_stored (r ∷ rs) none = absurd (let wrong : ⊥ = omega (arith, none) in wrong)

raised_none : (o : Option Reject) → option_map (raised 0) o ≡ o
raised_none None = refl
raised_none (Some r) = ap Some (let e : 0 + r.line ≡ r.line = omega arith in λ i. record r { line = e i })

module _ (context : Context) (text : List ℕ) (start size : ℕ) where
  abbrev d : Marks
  d = context.dialect

  abbrev width : ℕ → ℕ
  width i = length (range_bytes text size i)

  abbrev front : ℕ → Part (List Datum) Reject
  front k = ranges_part context text start size k

  pub none : no_part RowStart ≡ ranges_part context text start size 0
  none =
      let empty : 0 ≡ min (0 * size) (length text) = omega arith in
      no_part_at (judge_in context) context.dialect text start 0 RowStart ∙ ap (λ to. part_of (judge_in context) context.dialect text start 0 to RowStart) empty

  pub begun : (joined : Joined) → IsBegun context RowStart joined → IsJoinedTo context text start size 0 joined
  begun joined b = record {
    part = subst (λ (p : Part (List Datum) Reject). IsJoinedPart context p joined) none b.part;
    rescans = b.rescans;
    rescanned = b.rescanned;
  }

  -- ---- the next range

  module _ (k : ℕ) (inside : k * size ≤ length text) where
    rescanned-more : first_rescanned d text size (k + 1) ≡ first_rescanned d text size k ++ cond (is_rescanned d text size k) (k ∷ []) []
    rescanned-more = ap (filter (is_rescanned d text size)) (ranges-more k) ∙ filter-append (is_rescanned d text size) (range_with_len 0 k) (k ∷ [])

    count-more : length (first_rescanned d text size (k + 1)) ≡ length (first_rescanned d text size k) + cond (is_rescanned d text size k) 1 0
    count-more = ap length rescanned-more ∙ length-append (first_rescanned d text size k) (cond (is_rescanned d text size k) (k ∷ []) [])
        ∙ ap (λ n. length (first_rescanned d text size k) + n) (one_if (is_rescanned d text size k) k)

    bytes-more : sum_by width (first_rescanned d text size (k + 1)) ≡ sum_by width (first_rescanned d text size k) + cond (is_rescanned d text size k) (width k) 0
    bytes-more = ap (sum_by width) rescanned-more ∙ sum_by-append width (first_rescanned d text size k) (cond (is_rescanned d text size k) (k ∷ []) [])
        ∙ ap (λ n. sum_by width (first_rescanned d text size k) + n) (sum_if width (is_rescanned d text size k) k)

    next_end : ranges_end text size (k + 1) ≡ min (k * size + size) (length text)
    next_end = let e : (k + 1) * size ≡ k * size + size = omega arith in ap (λ n. min n (length text)) e

    front-more : (s : State) → s ≡ (front k).end → join raised (front k) (part_of (judge_in context) d text start (ranges_end text size k) (ranges_end text size (k + 1)) s) ≡ front (k + 1)
    front-more s is =
        ap (λ t. join raised (front k) (part_of (judge_in context) d text start (ranges_end text size k) (ranges_end text size (k + 1)) t)) is
        ∙ sym (part_of-join (judge_in context) raised (rows_are_judged_alike d context.schema context.scan_id context.file_id) d text start 0 (ranges_end text size k) (ranges_end text size (k + 1)) RowStart
        (omega arith) (omega (arith, next_end)) (omega arith))

    module _ (old : Joined) (h : IsJoinedTo context text start size k old) where
      pub state_is : old.end ≡ true_opening d text size k
      state_is = h.part.end ∙ ap (λ n. state_after d RowStart (take n text)) (let e : ranges_end text size k - 0 ≡ k * size = omega (arith, inside) in e)

      -- it counts where it is read again
      again_is : (bytes : List ℕ) (span : Span) → span.number ≡ k → guess_of d bytes span ≡ guess d (range_bytes text size k) (byte_before text (k * size)) →
          is_again (opening_in d bytes span old.end) old.end ≡ is_rescanned d text size k
      again_is bytes span number_is guess_is = λ i. not (same_state (cond (number_is i % group_len == 0) (state_is i) (guess_is i)) (state_is i))

      pub next_range : (bytes : List ℕ) (window_base : ℕ) (span : Span) →
          span_part context bytes window_base span old.end ≡ part_of (judge_in context) d text start (ranges_end text size k) (ranges_end text size (k + 1)) old.end →
          span.to - span.from ≡ width k → span.number ≡ k → guess_of d bytes span ≡ guess d (range_bytes text size k) (byte_before text (k * size)) →
          (new : Joined) → AddsSpan context bytes window_base span (opening_in d bytes span old.end) old new → IsJoinedTo context text start size (k + 1) new
      next_range bytes window_base span part_is width_is number_is guess_is new adds =
          let first : State = opening_in d bytes span old.end in
          let wrong : is_again first old.end ≡ is_rescanned d text size k = again_is bytes span number_is guess_is in
          let q : Part (List Datum) Reject = span_part context bytes window_base span old.end in
          let scan : Scanned = scanned context bytes window_base span old.end in
          let range : IsOfRange scan (is_again first old.end) (span.to - span.from) adds.next = adds.of in
          let is : IsAppended adds.next old new = adds.adds in
          let next : join raised (front k) q ≡ front (k + 1) = ap (join raised (front k)) part_is ∙ front-more old.end h.part.end in
          let one : IsJoinedPart context q adds.next = range_is_part context span.number old.end q scan (is_again first old.end) (span.to - span.from) adds.next refl range in
          let count_one : adds.next.rescans ≡ cond {A = ℕ} (is_rescanned d text size k) 1 0 = range.rescans ∙ ap (λ (b : Bool). cond {A = ℕ} b 1 0) wrong in
          let bytes_one : adds.next.rescanned ≡ cond {A = ℕ} (is_rescanned d text size k) (width k) 0 = range.rescanned ∙ (λ i. cond {A = ℕ} (wrong i) (width_is i) 0) in
          record {
            part = subst (λ (p : Part (List Datum) Reject). IsJoinedPart context p new) next (appended_is_part context (front k) q adds.next old new h.part one is);
            rescans = is.rescans ∙ (λ i. h.rescans i + count_one i) ∙ sym count-more;
            rescanned = is.rescanned ∙ (λ i. h.rescanned i + bytes_one i) ∙ sym bytes-more;
          }

  -- ---- the first reject, where one is kept

  module _ (k : ℕ) (joined : Joined) (h : IsJoinedTo context text start size k joined) (keeps : context.keep ≡ First 1) where
    stored_is : joined.book.stored ≡ take 1 (front k).faults
    stored_is = ap (λ (b : BookView). b.stored) h.part.book ∙ ap (λ (keep : Keep). (book_of keep (front k).faults).stored) keeps

    pub no_faults : length joined.book.stored ≤ 0 → (front k).faults ≡ []
    no_faults none = none_stored (front k).faults (omega (arith, none, ap length stored_is))

    pub first_reject_is : 0 < length joined.book.stored → (reject : Reject) → option_map (raised 0) (slice_get joined.book.stored 0) ≡ Some reject →
        slice_get (part_of (judge_in context) d text start 0 (length text) RowStart).faults 0 ≡ Some reject
    first_reject_is some reject e =
        let end : ℕ = ranges_end text size k in
        let rest : Part (List Datum) Reject = part_of (judge_in context) d text start end (length text) (front k).end in
        let all : part_of (judge_in context) d text start 0 (length text) RowStart ≡ join raised (front k) rest =
        part_of-join (judge_in context) raised (rows_are_judged_alike d context.schema context.scan_id context.file_id) d text start 0 end (length text) RowStart (omega arith) (omega arith) (omega arith) in
        let bad : is_bad (front k) ≡ true = some_stored (front k).faults (omega (arith, some, ap length stored_is)) in
        ap (λ (p : Part (List Datum) Reject). slice_get p.faults 0) all
        ∙ first_fault_left raised (front k) rest bad
        ∙ sym (first_kept (front k).faults)
        ∙ ap (λ rs. slice_get rs 0) (sym stored_is)
        ∙ sym (raised_none (slice_get joined.book.stored 0))
        ∙ e

  -- ---- all ranges

  pub all_ranges : 0 < size → ranges_part context text start size (range_count (length text) size) ≡ part_of (judge_in context) d text start 0 (length text) RowStart
  all_ranges some =
      let front_is : min (range_count (length text) size * size) (length text) ≡ length text = omega (arith, count_covers (length text) size some) in
      ap (λ to. part_of (judge_in context) context.dialect text start 0 to RowStart) front_is
