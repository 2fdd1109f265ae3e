-- A range that is read in a window is read as it is in all data.
use Rattle.std.proofs.Common.{◌≡◌, ◌⊎◌, ℕ, ◌+◌, ◌-◌, ◌*◌, ◌<◌, ◌≤◌, min, true, List, [], ◌++◌, length, drop, refl, sym, ◌∙◌, ap, arith, inl, inr, append_assoc, append-nil, length-append, length-append, length-take, length-drop}
use Rattle.std.specs.Prelude.{slice_range}
use Rattle.std.proofs.lemmas.Bool.Decides.{leb_tells}
use Rattle.std.proofs.Math.Nat.{mul-le-mul_right}
use Rattle.byte_classes.specs.Places.{byte_before}
use Rattle.quote_automaton.specs.declared.state.State.{State}
use Rattle.range_guess.specs.Cut.{range_count}
use Rattle.range_guess.specs.Guess.{guess}
use Rattle.range_guess.specs.Rescans.{range_bytes}
use Rattle.range_guess.proofs.CutLaws.{count_before, count_covers}
use Rattle.range_scan.specs.declared.context.Context.{Context}
use Rattle.range_guess.specs.declared.span.Span.{Span}
use Rattle.range_scan.specs.Part.{part_of}
use Rattle.range_scan.specs.Scanned.{judge_in, span_part}
use Rattle.range_scan.proofs.JudgeLaws.{first_bytes_decide}
use Rattle.range_scan.proofs.WindowLaws.{window_suffices}
use Rattle.load_crew.proofs.WindowLaws.{slice-in, before-in}
use Rattle.range_guess.specs.Span.{guess_of}
use Rattle.range_scan.specs.Ranges.{ranges_end}
use Rattle.window_load.specs.Ranges.{begins_behind, span_in, range_reach}
use Rattle.window_load.specs.Reading.{MayGoOn}
use Rattle.window_load.specs.Window.{WindowView}
use Rattle.window_load.proofs.RowEnds.{decided}
use Rattle.window_load.proofs.WindowSteps.{Stands, place-more, is_over, begins, ends, reaches}

-- ranges that begin before the end are below the count, and no more of them cover all
pub below_count : (n size k : ℕ) → 0 < size → k * size < n → k + 1 ≤ range_count n size
below_count n size k some before = elim (leb_tells (k + 1) (range_count n size)) [
  | inl h ↦ h.1
  | inr h ↦ (let few : range_count n size ≤ k = omega (arith, h.1) in absurd (let wrong : ⊥ = omega (arith, mul-le-mul_right size few, count_covers n size some, before) in wrong))
]

pub is_count : (n size k : ℕ) → 0 < size → n ≤ k * size → k ≤ range_count n size → k ≡ range_count n size
is_count n size k some covered few = elim (leb_tells (range_count n size) k) [
  | inl h ↦ omega (arith, h.1, few)
  | inr h ↦ (let below : k < range_count n size = h.1 in absurd (let wrong : ⊥ = omega (arith, count_before n size k some below, covered) in wrong))
]

module _ (start size k at : ℕ) (text : List ℕ) (w : WindowView) (s : Stands start size k at text w) (some : 0 < size) (line : ℕ)
    (filled : (w.ended ≡ true) ⊎ (at + range_reach size line ≤ length w.kept)) where
  -- no range is left
  pub all_ranges_read : at ≡ length w.kept → (more : List ℕ) → MayGoOn w more → k ≤ range_count (length (text ++ more)) size → k ≡ range_count (length (text ++ more)) size
  all_ranges_read over more may few = is_count (length (text ++ more)) size k some (is_over start size k at text w s some line filled over more may) few

  module _ (there : at < length w.kept) where
    abbrev pub span : Span
    span = span_in at (length w.kept) size k

    module _ (more : List ℕ) (may : MayGoOn w more) where
      abbrev all : List ℕ
      all = text ++ more

      -- it is one of the ranges
      pub is_one : k + 1 ≤ range_count (length (text ++ more)) size
      is_one = below_count (length all) size k some (begins start size k at text w s some line filled there more may)

      pub inside : k * size ≤ length (text ++ more)
      inside = omega (arith, begins start size k at text w s some line filled there more may)

      data_is : s.lead ++ w.kept ++ more ≡ all
      data_is = ap (λ xs. xs ++ more) (sym s.data_is)

      from_is : length s.lead + at ≡ k * size
      from_is = omega (arith, place-more start size k at text w s more may, inside)

      to_is : length s.lead + span.to ≡ ranges_end all size (k + 1)
      to_is = ends start size k at text w s some line filled there more may

      ordered : at ≤ span.to
      ordered = omega (arith, there)

      within : span.to ≤ length w.kept
      within = omega arith

      -- what ends the rows of the range: the input's end, so many bytes as a row may have, or the start of another row
      pub part_is : (context : Context) (o : State) → (w.ended ≡ true) ⊎ ((context.schema.max_line_size ≤ line) ⊎ (begins_behind context.dialect w.kept span o ≡ true)) →
          span_part context w.kept w.base span o ≡ part_of (judge_in context) context.dialect (text ++ more) start (ranges_end (text ++ more) size k) (ranges_end (text ++ more) size (k + 1)) o
      part_is context o enough =
          let first : length s.lead + at ≡ ranges_end all size k = place-more start size k at text w s more may in
          let most : ℕ = context.schema.max_line_size in
          let there_is : part_of (judge_in context) context.dialect (s.lead ++ w.kept ++ more) start (length s.lead + at) (length s.lead + span.to) o
          ≡ part_of (judge_in context) context.dialect w.kept (start + length s.lead) at span.to o =
          elim enough [
            | inl ended ↦ far_enough context o (inl (may ended))
            | inr rest ↦ elim rest [
              | inl long ↦ far_enough context o (elim (reaches start size k at text w s some line filled there more may) [ inl none ↦ inl none | inr past ↦ inr (omega (arith, past, long)) ])
              | inr behind ↦ row_begins context o behind
            ]
          ] in
          ap (λ b. part_of (judge_in context) context.dialect w.kept b at span.to o) s.base_is
          ∙ sym there_is
          ∙ (λ i. part_of (judge_in context) context.dialect (data_is i) start (first i) (to_is i) o)
        where
          far_enough : (context : Context) (o : State) → (more ≡ []) ⊎ (span.to + context.schema.max_line_size < length w.kept) →
              part_of (judge_in context) context.dialect (s.lead ++ w.kept ++ more) start (length s.lead + at) (length s.lead + span.to) o
              ≡ part_of (judge_in context) context.dialect w.kept (start + length s.lead) at span.to o
          far_enough context o far =
              window_suffices (judge_in context) context.schema.max_line_size (first_bytes_decide context.dialect context.schema context.scan_id context.file_id) context.dialect
              s.lead w.kept more start at span.to o ordered within s.before far

          row_begins : (context : Context) (o : State) → begins_behind context.dialect w.kept span o ≡ true →
              part_of (judge_in context) context.dialect (s.lead ++ w.kept ++ more) start (length s.lead + at) (length s.lead + span.to) o
              ≡ part_of (judge_in context) context.dialect w.kept (start + length s.lead) at span.to o
          row_begins context o behind =
              let whole : s.lead ++ w.kept ++ more ≡ s.lead ++ (w.kept ++ more) ++ [] = append_assoc s.lead w.kept more ∙ sym (append-nil (s.lead ++ (w.kept ++ more))) in
              let longer : span.to ≤ length (w.kept ++ more) = omega (arith, within, length-append w.kept more) in
              ap (λ bs. part_of (judge_in context) context.dialect bs start (length s.lead + at) (length s.lead + span.to) o) whole
              ∙ window_suffices (judge_in context) context.schema.max_line_size (first_bytes_decide context.dialect context.schema context.scan_id context.file_id) context.dialect
              s.lead (w.kept ++ more) [] start at span.to o ordered longer s.before (inl refl)
              ∙ decided (judge_in context) context.dialect w.kept more (start + length s.lead) at span.to o ordered within behind

      pub width_is : span.to - span.from ≡ length (range_bytes (text ++ more) size k)
      width_is = omega (arith, from_is, to_is, inside, length-take (min ((k + 1) * size) (length all) - k * size) (drop (k * size) all), length-drop (k * size) all)

      pub guess_is : (context : Context) → guess_of context.dialect w.kept span ≡ guess context.dialect (range_bytes (text ++ more) size k) (byte_before (text ++ more) (k * size))
      guess_is context =
          let bytes : slice_range w.kept at span.to ≡ range_bytes all size k = sym (slice-in s.lead w.kept more at span.to ordered within) ∙ (λ i. slice_range (data_is i) (from_is i) (to_is i)) in
          let byte : byte_before w.kept at ≡ byte_before all (k * size) = sym (before-in s.lead w.kept more at span.to ordered within s.before) ∙ (λ i. byte_before (data_is i) (from_is i)) in
          λ i. guess context.dialect (bytes i) (byte i)
