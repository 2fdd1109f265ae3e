-- The header's row is the first sampled one, whatever follows its line end.
use Rattle.std.proofs.Common.{◌≡◌, ℕ, zero, suc, ◌-◌, ◌<◌, ◌≤◌, Bool, true, false, ◌&&◌, not, cond, List, [], ◌∷◌, ◌++◌, map, length, take, drop, refl, sym, ◌∙◌, ap, subst, arith, ◌⊎◌, inl, inr}
use Rattle.std.specs.Prelude.{None, Some, nat_lt, ◌==◌}
use Rattle.std.proofs.lemmas.Bool.{eq-eqb}
use Rattle.byte_classes.specs.declared.class.Class.TheVariants as class
use Rattle.byte_classes.specs.Class.{class_of, is_line_end}
use Rattle.byte_classes.specs.Dialect.{Marks, is_byte}
use Rattle.quote_automaton.specs.declared.state.State.{State}
use Rattle.quote_automaton.specs.declared.state.State.TheVariants.{RowStart}
use Rattle.quote_automaton.specs.Automaton.{step, is_inside_quotes}
use Rattle.quote_automaton.specs.Rows.{begins_row, ends_row, row_end}
use Rattle.quote_automaton.proofs.RowLaws.{row_end-cons_zero}
use Rattle.dialect_rank.specs.Sampled.{Span, filled_rows, is_last_cut, without_last, sampled_spans}
use Rattle.csv_sniffer.specs.LineEnd.{line_end_of, line_end_length, kind_behind_cr}
use Rattle.csv_sniffer.specs.declared.found.Newline.TheVariants as newline
use Rattle.table_laws.proofs.Divisions.{and_first}
use Rattle.table_laws.proofs.EarlyRows.{EndEarly, early-take, early-rows}
use Rattle.table_laws.proofs.HeadRow.{FirstSpan, spans_from, spans_from-cons, further, first_end}
use Rattle.table_laws.proofs.WrittenSample.{FirstRow, sampled}

-- ---- a row ends at a line end, or with the bytes

some_length : (b : ℕ) (bytes : List ℕ) → 1 ≤ line_end_length (Some (kind_behind_cr bytes))
some_length b [] = omega arith
some_length b (c ∷ bytes) = by_test (c == 10) where
  by_test : (t : Bool) → 1 ≤ line_end_length (Some (cond t newline.CrLf newline.Cr))
  by_test true = omega arith
  by_test false = omega arith

no_line_end : (t u v w : Bool) → is_line_end (cond t class.Delim (cond u class.Quote (cond v class.Escape (cond w class.Comment class.Other)))) ≡ true → ⊥
no_line_end true u v w h = let no : ⊥ = cc in no
no_line_end false true v w h = let no : ⊥ = cc in no
no_line_end false false true w h = let no : ⊥ = cc in no
no_line_end false false false true h = let no : ⊥ = cc in no
no_line_end false false false false h = let no : ⊥ = cc in no

line_end_is : (d : Marks) (b : ℕ) (bytes : List ℕ) → is_line_end (class_of d b) ≡ true → 1 ≤ line_end_length (line_end_of (b ∷ bytes))
line_end_is d b bytes ends = by_tests (b == 10) (b == 13) ends where
  by_tests : (t u : Bool) → is_line_end (cond t class.Lf (cond u class.Cr (cond (b == d.delim) class.Delim (cond (is_byte d.quote b) class.Quote (cond (is_byte d.escape b) class.Escape (cond (is_byte d.comment b) class.Comment class.Other)))))) ≡ true →
      1 ≤ line_end_length (cond t (Some newline.Lf) (cond u (Some (kind_behind_cr bytes)) None))
  by_tests true u h = omega arith
  by_tests false true h = some_length b bytes
  by_tests false false h = absurd (no_line_end (b == d.delim) (is_byte d.quote b) (is_byte d.escape b) (is_byte d.comment b) h)

-- a place at the end of some bytes, or at a line end of theirs
abbrev EndsThere : List ℕ → ℕ → Type 0
EndsThere bytes e = (e ≡ length bytes) ⊎ (1 ≤ line_end_length (line_end_of (drop e bytes)))

one_further : (b : ℕ) (bytes : List ℕ) (e : ℕ) → EndsThere bytes e → EndsThere (b ∷ bytes) (suc e)
one_further b bytes e (inl all) = inl (ap suc all)
one_further b bytes e (inr line) = inr line

row_ends : (d : Marks) (s : State) (bytes : List ℕ) → EndsThere bytes (row_end d s bytes 0)
row_ends d s [] = inl refl
row_ends d s (b ∷ bytes) = subst (EndsThere (b ∷ bytes)) (sym (row_end-cons_zero d s b bytes)) (by_end (ends_row s (class_of d b)) refl (row_ends d (step d s b) bytes)) where
  by_end : (t : Bool) → ends_row s (class_of d b) ≡ t → EndsThere bytes (row_end d (step d s b) bytes 0) → EndsThere (b ∷ bytes) (cond t 0 (suc (row_end d (step d s b) bytes 0)))
  by_end true ends rest = inr (line_end_is d b bytes (and_first (is_line_end (class_of d b)) (not (is_inside_quotes s)) ends))
  by_end false ends rest = one_further b bytes (row_end d (step d s b) bytes 0) rest

first_ends : (d : Marks) (s : State) (bytes : List ℕ) (p e : ℕ) → FirstSpan (p, e) (spans_from d s bytes) → EndsThere bytes e
first_ends d s [] p e (more, is) = absurd (let no : ⊥ = cc in no)
first_ends d s (b ∷ bytes) p e first =
    by_own (begins_row s (class_of d b) && not (ends_row s (class_of d b))) (λ q f later. first_ends d (step d s b) bytes q f later) (subst (FirstSpan (p, e)) (spans_from-cons d s b bytes) first)
  where
    by_own : (t : Bool) → ((q f : ℕ) → FirstSpan (q, f) (spans_from d (step d s b) bytes) → EndsThere bytes f) →
        FirstSpan (p, e) (cond t ((0, suc (row_end d (step d s b) bytes 0)) ∷ []) [] ++ map further (spans_from d (step d s b) bytes)) → EndsThere (b ∷ bytes) e
    by_own true later (more, is) =
        let end : suc (row_end d (step d s b) bytes 0) ≡ e = ap first_end is in
        subst (EndsThere (b ∷ bytes)) end (one_further b bytes (row_end d (step d s b) bytes 0) (row_ends d (step d s b) bytes))
    by_own false later first = by_spans (spans_from d (step d s b) bytes) first (λ q f is. later q f is) where
      by_spans : (spans : List Span) → FirstSpan (p, e) (map further spans) → ((q f : ℕ) → FirstSpan (q, f) spans → EndsThere bytes f) → EndsThere (b ∷ bytes) e
      by_spans [] (more, is) there = absurd (let no : ⊥ = cc in no)
      by_spans ((q, f) ∷ spans) (more, is) there =
          let end : suc f ≡ e = ap first_end is in
          subst (EndsThere (b ∷ bytes)) end (one_further b bytes f (there q f (spans, refl)))

-- ---- the first sampled row

first_of_taken : (n : ℕ) (spans : List Span) (span : Span) → FirstSpan span (take n spans) → (1 ≤ n) × FirstSpan span spans
first_of_taken zero spans span (more, is) = absurd (let no : ⊥ = cc in no)
first_of_taken (suc n) [] span (more, is) = absurd (let no : ⊥ = cc in no)
first_of_taken (suc n) (x ∷ spans) span (more, is) = (omega arith, (spans, (let same : x ≡ span = cc in ap (λ y. y ∷ spans) same)))

first_without_last : (spans : List Span) (span : Span) → FirstSpan span (without_last spans) → FirstSpan span spans
first_without_last spans span first = by_test (nat_lt 1 (length spans)) first where
  by_test : (t : Bool) → FirstSpan span (cond t (take (length spans - 1) spans) spans) → FirstSpan span spans
  by_test true first = (first_of_taken (length spans - 1) spans span first).1
  by_test false first = first

pub first_sampled : (d : Marks) (sample : List ℕ) (whole : Bool) (size : ℕ) (span : Span) → FirstSpan span (sampled_spans d sample whole size) → (1 ≤ size) × FirstSpan span (filled_rows d sample)
first_sampled d sample whole size span first = first_of_taken size (filled_rows d sample) span (by_cut (is_last_cut sample whole (take size (filled_rows d sample))) first) where
  by_cut : (t : Bool) → FirstSpan span (cond t (without_last (take size (filled_rows d sample))) (take size (filled_rows d sample))) → FirstSpan span (take size (filled_rows d sample))
  by_cut true first = first_without_last (take size (filled_rows d sample)) span first
  by_cut false first = first

-- a first row that ends before the end of a sample is sampled whole
pub sampled_first : (d : Marks) (sample : List ℕ) (whole : Bool) (size : ℕ) (span : Span) → 1 ≤ size → FirstSpan span (filled_rows d sample) → span.1 < length sample → FirstRow sample whole (sampled_spans d sample whole size) span
sampled_first d sample whole zero span asked first inside = absurd (let no : ⊥ = omega (arith, asked) in no)
sampled_first d sample whole (suc size) span asked (more, is) inside =
    sampled sample whole span (take (suc size) (filled_rows d sample)) (take size more) (ap (take (suc size)) is) inside
    (early-take (length sample) (suc size) (filled_rows d sample) (early-rows d sample))

-- ---- a first row that ends with the sample

early_sampled : (d : Marks) (sample : List ℕ) (whole : Bool) (size : ℕ) → EndEarly (length sample) (sampled_spans d sample whole size)
early_sampled d sample whole size = by_cut (is_last_cut sample whole spans) where
  spans : List Span
  spans = take size (filled_rows d sample)

  early : EndEarly (length sample) spans
  early = early-take (length sample) size (filled_rows d sample) (early-rows d sample)

  by_count : (t : Bool) → EndEarly (length sample) (cond t (take (length spans - 1) spans) spans)
  by_count true = early-take (length sample) (length spans - 1) spans early
  by_count false = early

  by_cut : (t : Bool) → EndEarly (length sample) (cond t (without_last spans) spans)
  by_cut true = by_count (nat_lt 1 (length spans))
  by_cut false = early

whole_at_end : (sample : List ℕ) (whole : Bool) (spans : List Span) (p e : ℕ) → EndEarly (length sample) spans → FirstSpan (p, e) spans → e ≡ length sample → is_last_cut sample whole spans ≡ false → whole ≡ true
whole_at_end sample true spans p e early first all cut = refl
whole_at_end sample false [] p e early (more, is) all cut = absurd (let no : ⊥ = cc in no)
whole_at_end sample false (span ∷ (next ∷ spans)) p e early (more, is) all cut =
    let end : span.1 ≡ e = ap first_end is in absurd (let no : ⊥ = omega (arith, end, all, early.0) in no)
whole_at_end sample false (span ∷ []) p e early (more, is) all cut =
    let end : span.1 ≡ e = ap first_end is in
    let at : (span.1 == length sample) ≡ true = eq-eqb span.1 (length sample) (end ∙ all) in
    absurd (let no : true ≡ false = sym at ∙ cut in let wrong : ⊥ = cc in wrong)

-- the header's row ends at a line end of the sample, or with all that there is
pub header_ends : (d : Marks) (sample : List ℕ) (whole : Bool) (size p e : ℕ) → FirstSpan (p, e) (sampled_spans d sample whole size) → is_last_cut sample whole (sampled_spans d sample whole size) ≡ false →
    ((e ≡ length sample) × (whole ≡ true)) ⊎ (1 ≤ line_end_length (line_end_of (drop e sample)))
header_ends d sample whole size p e first cut = by_end (first_ends d RowStart sample p e (first_sampled d sample whole size (p, e) first).1) where
  by_end : EndsThere sample e → ((e ≡ length sample) × (whole ≡ true)) ⊎ (1 ≤ line_end_length (line_end_of (drop e sample)))
  by_end (inl all) = inl (all, whole_at_end sample whole (sampled_spans d sample whole size) p e (early_sampled d sample whole size) first all cut)
  by_end (inr line) = inr line
