-- Where two dialects read a sample alike they find the same in it.
use Rattle.std.proofs.Common.{◌≡◌, ℕ, ◌+◌, ◌-◌, ◌<◌, Bool, true, ◌&&◌, cond, List, [], ◌∷◌, length, take, drop, get_or, slice_get, map, refl, sym, ◌∙◌, ap, subst, arith, inl, inr}
use Rattle.std.specs.Prelude.{◌≢◌, ◌==◌, All, IfSome, None, Some, Option, count_by, filter, sum_by}
use Rattle.std.specs.List.{position_or_len}
use Rattle.std.specs.Option.{is_none}
use Rattle.std.proofs.lemmas.Bool.{and_parts, eqb-true, or_cases}
use Rattle.std.proofs.lemmas.List.Elements.{All-drop, All-map, All-take}
use Rattle.std.proofs.lemmas.List.Sums.{passes_at_first, sum_by-cons}
use Rattle.std.proofs.lemmas.Option.{get_or_from_slice_get, slice_get_within}
use Rattle.byte_classes.specs.Dialect.{Marks, IsDialect, IsMark}
use Rattle.quote_automaton.specs.declared.state.State.{State}
use Rattle.quote_automaton.specs.declared.state.State.TheVariants.{RowStart, FieldStart}
use Rattle.row_fields.specs.Fields.{Field, fields, flaw}
use Rattle.dialect_rank.specs.declared.shape.RowShape.{RowShape}
use Rattle.dialect_rank.specs.Absent.{is_absent, lacks}
use Rattle.dialect_rank.specs.Alike.{quotes_alike, reads_alike, separates_alike}
use Rattle.dialect_rank.specs.Candidates.{same_byte}
use Rattle.dialect_rank.specs.Laws.{FindSame, without_quote}
use Rattle.dialect_rank.specs.Sampled.{Span, is_last_cut, sampled_spans, span_bytes, without_last}
use Rattle.dialect_rank.specs.Score.{closed_fields, most_frequent, score_of, score_rows}
use Rattle.dialect_rank.specs.Shape.{field_counts, shape_of}
use Rattle.dialect_rank.proofs.AlikeBytes.{ReadsAlike, any_state, is_outside, quoting_alike, unquoted_alike}
use Rattle.dialect_rank.proofs.AlikeRows.{AllAlike, fields_alike, flaw_alike, spans_alike}
use Rattle.dialect_rank.proofs.QuoteSearch.{absent_each, lacking}
use Rattle.dialect_rank.proofs.RowSpans.{is_filled}
use Rattle.dialect_rank.proofs.Shapes.{score-is}

-- each byte of a sample is read alike, in the states that occur
record SampleAlike (d e : Marks) (sample : List ℕ) : Type 0 where
  occurs : State → Bool
  begins : occurs RowStart ≡ true
  starts : occurs FieldStart ≡ true
  all : AllAlike d e occurs sample

-- ---- what such dialects find

module _ (d e : Marks) (sample : List ℕ) (alike : SampleAlike d e sample) where
  in_span : (span : Span) → AllAlike d e alike.occurs (span_bytes sample span)
  in_span span =
      let P : ℕ → Type 0 = ReadsAlike d e alike.occurs in
      All-take P (span.1 - span.0) (drop span.0 sample) (All-drop P span.0 sample alike.all)

  same_fields : (span : Span) → fields d (span_bytes sample span) ≡ fields e (span_bytes sample span)
  same_fields span = fields_alike d e alike.occurs (span_bytes sample span) alike.begins alike.starts (in_span span)

  same_flaw : (span : Span) → flaw d (span_bytes sample span) ≡ flaw e (span_bytes sample span)
  same_flaw span = flaw_alike d e alike.occurs (span_bytes sample span) alike.begins alike.starts (in_span span)

  same_shapes : (spans : List Span) → map (shape_of d) (map (span_bytes sample) spans) ≡ map (shape_of e) (map (span_bytes sample) spans)
  same_shapes [] = refl
  same_shapes (span ∷ spans) = λ i. record { fields = length (same_fields span i); sound = is_none (same_flaw span i) } ∷ same_shapes spans i

  same_closed : (spans : List Span) → sum_by (closed_fields d) (map (span_bytes sample) spans) ≡ sum_by (closed_fields e) (map (span_bytes sample) spans)
  same_closed [] = refl
  same_closed (span ∷ spans) =
      let here : closed_fields d (span_bytes sample span) ≡ closed_fields e (span_bytes sample span) =
      λ i. count_by (λ (f : Field). f.quoted) (take (cond (is_none (same_flaw span i)) (length (same_fields span i)) (length (same_fields span i) - 1)) (same_fields span i)) in
      let rest : List (List ℕ) = map (span_bytes sample) spans in
      sum_by-cons (closed_fields d) (span_bytes sample span) rest ∙ (λ i. here i + same_closed spans i) ∙ sym (sum_by-cons (closed_fields e) (span_bytes sample span) rest)

  same_scores : (spans : List Span) → score_rows d (map (span_bytes sample) spans) ≡ score_rows e (map (span_bytes sample) spans)
  same_scores spans =
      let rows : List (List ℕ) = map (span_bytes sample) spans in
      let shapes : List RowShape = map (shape_of d) rows in
      let mode : ℕ = most_frequent (field_counts shapes) in
      let closed : ℕ = sum_by (closed_fields d) rows in
      sym (score-is d rows shapes mode closed refl refl refl) ∙ score-is e rows shapes mode closed (same_shapes spans) refl (same_closed spans)

  same_spans : (whole : Bool) (size : ℕ) → sampled_spans d sample whole size ≡ sampled_spans e sample whole size
  same_spans whole size =
      ap (λ (filled : List Span). cond (is_last_cut sample whole (take size (filter is_filled filled))) (without_last (take size (filter is_filled filled))) (take size (filter is_filled filled)))
      (spans_alike d e alike.occurs RowStart sample alike.begins alike.all)

  find_same : (whole : Bool) (size : ℕ) → FindSame d e sample whole size
  find_same whole size =
      let spans : List Span = sampled_spans d sample whole size in
      record {
        rows = same_spans whole size;
        read = All-map (λ row. fields d row ≡ fields e row) (span_bytes sample) spans (λ k span lt. same_fields (get_or spans k span));
        flawed = All-map (λ row. flaw d row ≡ flaw e row) (span_bytes sample) spans (λ k span lt. same_flaw (get_or spans k span));
        score = same_scores spans ∙ ap (λ spans. score_rows e (map (span_bytes sample) spans)) (same_spans whole size);
      }

-- ---- which dialects they are

same_is : (a b : Option ℕ) → same_byte a b ≡ true → a ≡ b
same_is None None h = refl
same_is None (Some b) h = absurd (let no : ⊥ = cc in no)
same_is (Some a) None h = absurd (let no : ⊥ = cc in no)
same_is (Some a) (Some b) h = ap Some (sym (eqb-true b a h))

module _ (d e : Marks) (sample : List ℕ) (sound : IsDialect d) (sound_other : IsDialect e) (alike : reads_alike sample d e ≡ true) where
  by_quotes : ((same_byte d.comment e.comment && separates_alike sample d e) ≡ true) × (quotes_alike sample d e ≡ true)
  by_quotes = and_parts (same_byte d.comment e.comment && separates_alike sample d e) (quotes_alike sample d e) alike

  by_comment : (same_byte d.comment e.comment ≡ true) × (separates_alike sample d e ≡ true)
  by_comment = and_parts (same_byte d.comment e.comment) (separates_alike sample d e) by_quotes.0

  comment : d.comment ≡ e.comment
  comment = same_is d.comment e.comment by_comment.0

  delims : All (λ b. (b == d.delim) ≡ (b == e.delim)) sample
  delims k x lt = elim (or_cases (d.delim == e.delim) (is_absent d.delim sample && is_absent e.delim sample) by_comment.1) [
    | inl same ↦ ap (λ m. get_or sample k x == m) (eqb-true d.delim e.delim same)
    | inr none ↦
        let both = and_parts (is_absent d.delim sample) (is_absent e.delim sample) none in
        absent_each sample d.delim both.0 k x lt ∙ sym (absent_each sample e.delim both.1 k x lt)
  ]

  sample_alike : SampleAlike d e sample
  sample_alike = elim (or_cases (same_byte d.quote e.quote && same_byte d.escape e.escape) (lacks sample d.quote && lacks sample e.quote) by_quotes.1) [
    | inl same ↦
        let both = and_parts (same_byte d.quote e.quote) (same_byte d.escape e.escape) same in
        record {
          occurs = any_state;
          begins = refl;
          starts = refl;
          all = λ k x lt. quoting_alike d e (same_is d.quote e.quote both.0) (same_is d.escape e.escape both.1) (get_or sample k x) (delims k x lt) comment;
        }
    | inr none ↦
        let both = and_parts (lacks sample d.quote) (lacks sample e.quote) none in
        record {
          occurs = is_outside;
          begins = refl;
          starts = refl;
          all = λ k x lt. unquoted_alike d e (get_or sample k x) sound sound_other (delims k x lt) comment (lacking sample d.quote both.0 k x lt) (lacking sample e.quote both.1 k x lt);
        }
  ]

  pub alike_find_same : (whole : Bool) (size : ℕ) → FindSame d e sample whole size
  alike_find_same = find_same d e sample sample_alike

-- ---- a quote that isn't there

comment_kept : (comment : Option ℕ) (A B C D : ℕ → Type 0) → IfSome comment (λ k. A k × B k × C k × D k) → IfSome comment (λ k. A k × B k × Unit {0} × Unit {0})
comment_kept None A B C D h = tt
comment_kept (Some k) A B C D h = (h.0, h.1, tt, tt)

unquoted_sound : (d : Marks) → IsDialect d → IsDialect (without_quote d)
unquoted_sound d sound = record {
  delim = sound.delim;
  quote = tt;
  escape = tt;
  comment = comment_kept d.comment IsMark (λ k. k ≢ d.delim) (λ k. IfSome d.quote (λ q. k ≢ q)) (λ k. IfSome d.escape (λ e. k ≢ e)) sound.comment;
}

pub absent_quote_is_none : (d : Marks) (sample : List ℕ) → IsDialect d → lacks sample d.quote ≡ true → (whole : Bool) (size : ℕ) → FindSame d (without_quote d) sample whole size
absent_quote_is_none d sample sound none = find_same d (without_quote d) sample (record {
  occurs = is_outside;
  begins = refl;
  starts = refl;
  all = λ k x lt. unquoted_alike d (without_quote d) (get_or sample k x) sound (unquoted_sound d sound) refl refl (lacking sample d.quote none k x lt) refl;
})

-- ---- the first of some candidates

-- the first that reads the sample as the one at a place does has its score
pub first_alike_score : (sample : List ℕ) (whole : Bool) (size : ℕ) (candidates : List Marks) (place first : ℕ) (d default : Marks) → All IsDialect candidates → slice_get candidates place ≡ Some d →
    first ≡ position_or_len (λ other. reads_alike sample other d) candidates → first < place → score_of (get_or candidates first default) sample whole size ≡ score_of d sample whole size
first_alike_score sample whole size candidates place first d default sound at is before =
    let below : place < length candidates = slice_get_within candidates place d at in
    let other : Marks = get_or candidates first default in
    let alike : reads_alike sample other d ≡ true =
    ap (λ k. reads_alike sample (get_or candidates k default) d) is ∙ passes_at_first (λ other. reads_alike sample other d) candidates default (omega (arith, below, before, is)) in
    (alike_find_same other d sample (sound first default (omega (arith, below, before)))
    (subst IsDialect (get_or_from_slice_get candidates place d default at) (sound place default below)) alike whole size).score
