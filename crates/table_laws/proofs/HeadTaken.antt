-- The header at the end of a head is taken, whatever follows it.
use Rattle.std.proofs.Common.{◌≡◌, ◌≢◌, ℕ, ◌+◌, ◌-◌, ◌<◌, ◌≤◌, Bool, true, false, ◌&&◌, cond, not, List, [], ◌++◌, map, length, take, drop, refl, sym, ◌∙◌, ap, subst, arith, ◌⊎◌, inl, inr, length-take, length-drop, length-append}
use Rattle.std.specs.Prelude.{None, Some, nat_lt}
use Rattle.std.specs.List.{last_or}
use Rattle.std.proofs.lemmas.Bool.{and_parts, ltb-true, not-true}
use Rattle.std.proofs.lemmas.List.{take-append-drop, take-append-le, drop-append-le}
use Rattle.byte_classes.specs.Dialect.{Marks}
use Rattle.byte_classes.proofs.LineEndLaws.{last_or-append}
use Rattle.quote_automaton.specs.declared.state.State.TheVariants.{RowStart}
use Rattle.quote_automaton.specs.Rows.{row_starts, row_end}
use Rattle.csv_source.specs.Lists.{is_empty}
use Rattle.load_options.specs.declared.options.Options.{Options}
use Rattle.dialect_rank.specs.Sampled.{Span, span_bytes, sampled_spans, filled_rows, is_last_cut}
use Rattle.csv_sniffer.specs.declared.found.Sniffed.{Sniffed}
use Rattle.csv_sniffer.specs.LineEnd.{line_end_of, line_end_length}
use Rattle.csv_sniffer.specs.Sample.{sample_limit, without_last_cr, sample_of, is_whole}
use Rattle.csv_sniffer.specs.Sniffed.{has_whole_row, first_if, behind_row, sniffed}
use Rattle.csv_sniffer.proofs.LineStarts.{parts}
use Rattle.csv_sniffer.proofs.SampleLaws.{sample-short}
use Rattle.csv_sniffer.proofs.SniffedLaws.{data_start_within}
use Rattle.table_laws.proofs.AloneFound.{TakesHeader, takes_own, takes_none}
use Rattle.table_laws.proofs.HeadFirst.{first_sampled, sampled_first, header_ends}
use Rattle.table_laws.proofs.HeadLines.{EndsAscii, ascii_behind, Follows}
use Rattle.table_laws.proofs.HeadRow.{FirstSpan, first_row_alike}
use Rattle.table_laws.proofs.HeadSample.{Begins, sample_behind, line_end_alike}
use Rattle.table_laws.proofs.PartFollows.{front_apart}
use Rattle.table_laws.proofs.WrittenSample.{FirstRow}
use Rattle.table_laws.proofs.HeadBytes.{span_alike, passes, end_ascii, drop_all, some_first, sample_front}

-- ---- the head's last part

-- a head that ends with the header's line
pub record HeaderLine (sample front : List ℕ) (spans : List Span) : Type 0 where
  pub p : ℕ
  pub e : ℕ
  pub more : List ℕ
  pub first : FirstSpan (p, e) spans
  pub is : sample ≡ front ++ more
  pub inside : e < length front
  pub line : line_end_length (line_end_of (drop e sample)) + e ≡ length front

module _ (o : Options) (rest : List ℕ) where
  abbrev sample : List ℕ
  sample = sample_of rest

  abbrev whole : Bool
  whole = is_whole rest

  abbrev s : Sniffed
  s = sniffed o sample whole

  abbrev spans : List Span
  spans = sampled_spans s.dialect sample whole o.sample_size

  abbrev front : List ℕ
  front = take s.data_start rest

  abbrev text : List ℕ
  text = drop s.data_start rest

  short : s.data_start ≤ length sample
  short = data_start_within o sample whole

  pub front_long : length front ≡ s.data_start
  front_long = (let long = length-take s.data_start rest in omega (arith, long, short, sample-short rest))

  rest_is : rest ≡ front ++ text
  rest_is = sym (take-append-drop s.data_start rest)

  -- the sample goes on behind it
  sample_is : sample ≡ front ++ drop s.data_start sample
  sample_is =
      let own : Begins [] rest sample = sample_front rest in
      let whole_rest : rest ≡ sample ++ own.tail = own.of ∙ ap (λ l. l ++ own.tail) (sym own.is) in
      let same : front ≡ take s.data_start sample = ap (take s.data_start) whole_rest ∙ take-append-le s.data_start sample own.tail short in
      sym (take-append-drop s.data_start sample) ∙ ap (λ l. l ++ drop s.data_start sample) (sym same)

  header_line : s.header ≡ true → (text ≡ []) ⊎ HeaderLine sample front spans
  header_line hdr =
      let has = and_parts (not (is_empty spans)) (not (is_last_cut sample whole spans)) (and_parts (has_whole_row sample whole spans) _ hdr).0 in
      let first = some_first spans has.0 in
      let start : s.data_start ≡ first.0.1 + line_end_length (line_end_of (drop first.0.1 sample)) = λ i. behind_row sample (first_if (hdr i) (first.1.1 i)) in
      elim (header_ends s.dialect sample whole o.sample_size first.0.0 first.0.1 first.1 (not-true (is_last_cut sample whole spans) has.1)) [
        | inl all ↦ (let same : sample ≡ rest = ap (λ t. cond t rest (without_last_cr (take sample_limit rest))) all.1 in inl (drop_all s.data_start rest (let long = ap length same in omega (arith, long, all.0, start))))
        | inr line ↦ inr (record {
          p = first.0.0;
          e = first.0.1;
          more = drop s.data_start sample;
          first = first.1;
          is = sample_is;
          inside = omega (arith, front_long, start, line);
          line = omega (arith, front_long, start);
        })
      ]

  -- how a head ends behind what is skipped: with no header, with all that there is, or with the header's line
  abbrev pub HeadEnd : Type 0
  HeadEnd = (s.header ≡ false) ⊎ ((text ≡ []) ⊎ ((s.header ≡ true) × HeaderLine sample front spans))

  pub head_end : HeadEnd
  head_end = by_header s.header refl where
    by_header : (t : Bool) → s.header ≡ t → HeadEnd
    by_header false none = inl none
    by_header true hdr = elim (header_line hdr) [ inl empty ↦ inr (inl empty) | inr line ↦ inr (inr (hdr, line)) ]

  module _ (line : HeaderLine sample front spans) where
    abbrev end : List ℕ
    end = drop line.e front

    end_long : length end ≡ length front - line.e
    end_long = length-drop line.e front

    end_some : end ≢ []
    end_some none = (let long = ap length none in omega (arith, long, end_long, line.inside))

    behind_end : (l : List ℕ) → drop line.e (front ++ l) ≡ end ++ l
    behind_end l = drop-append-le line.e front l (omega (arith, line.inside))

    own_end : line_end_length (line_end_of (end ++ line.more)) ≡ length end
    own_end =
        ap (λ l. line_end_length (line_end_of l)) (sym (ap (drop line.e) line.is ∙ behind_end line.more))
        ∙ omega (arith, line.line, end_long, line.inside)

    pub line_ascii : EndsAscii front
    line_ascii = subst EndsAscii (take-append-drop line.e front) (ascii_behind (take line.e front) end (end_ascii end line.more end_some own_end))

    last_is : last_or None front ≡ last_or (last_or None (take line.e front)) end
    last_is = ap (last_or None) (sym (take-append-drop line.e front)) ∙ last_or-append None (take line.e front) end

    pub takes_line : (other : List ℕ) → s.header ≡ true → Follows (last_or None front) text other → TakesHeader o sample whole (sample_of (front ++ other)) (is_whole (front ++ other))
    takes_line other hdr follows =
        let d : Marks = s.dialect in
        let p : ℕ = line.p in
        let e : ℕ = line.e in
        let all : Bool = is_whole (front ++ other) in
        let fits : length front ≤ length (sample_of (front ++ text)) = subst (λ l. length front ≤ length (sample_of l)) rest_is (omega (arith, front_long, short)) in
        let g : Begins front other (sample_of (front ++ other)) = sample_behind front text other fits follows.some in
        let own = first_sampled d sample whole o.sample_size (p, e) line.first in
        let first : FirstSpan (p, e) (filled_rows d (front ++ g.more)) =
        first_row_alike d front line.more g.more p e (subst (λ l. FirstSpan (p, e) (filled_rows d l)) line.is own.1) line.inside in
        let long = length-append front g.more in
        let fr : FirstRow (front ++ g.more) all (sampled_spans d (front ++ g.more) all o.sample_size) (p, e) =
        sampled_first d (front ++ g.more) all o.sample_size (p, e) own.0 first (omega (arith, long, line.inside)) in
        let ordered : p < e = ltb-true p e (passes (λ span. nat_lt span.0 span.1) (map (λ k. (k, row_end d RowStart sample k)) (row_starts d RowStart sample)) (p, e) own.1) in
        let bytes : span_bytes (front ++ g.more) (p, e) ≡ span_bytes sample (p, e) =
        span_alike front g.more line.more p e (omega (arith, ordered)) (omega (arith, line.inside)) ∙ ap (λ l. span_bytes l (p, e)) (sym line.is) in
        let apart : parts (last_or (last_or None (take e front)) end) g.more ≡ false =
        ap (λ c. parts c g.more) (sym last_is) ∙ front_apart (last_or None front) g.more g.tail (ap (parts (last_or None front)) (sym g.of) ∙ follows.apart) in
        let alike : line_end_length (line_end_of (end ++ g.more)) ≡ length end = line_end_alike end line.more g.more (last_or None (take e front)) end_some own_end apart in
        let there : line_end_length (line_end_of (drop e (front ++ g.more))) ≡ length end = ap (λ l. line_end_length (line_end_of l)) (behind_end g.more) ∙ alike in
        let start : e + line_end_length (line_end_of (drop e (front ++ g.more))) ≡ s.data_start = omega (arith, there, end_long, front_long, line.inside) in
        subst (λ l. TakesHeader o sample whole l all) (sym g.is) (record {
          has = (λ i. fr.whole_row i && hdr i) ∙ sym hdr;
          row = (λ i. first_if (hdr i) (map (span_bytes (front ++ g.more)) (fr.is i))) ∙ ap (λ b. Some b) bytes ∙ sym (λ i. first_if (hdr i) (map (span_bytes sample) (line.first.1 i)));
          start = (λ i. behind_row (front ++ g.more) (first_if (hdr i) (fr.is i))) ∙ start;
        })

  -- each other text that follows a head has its header
  pub takes_header : (other : List ℕ) → HeadEnd → Follows (last_or None front) text other → TakesHeader o sample whole (sample_of (front ++ other)) (is_whole (front ++ other))
  takes_header other (inl none) follows = takes_none o sample whole (sample_of (front ++ other)) (is_whole (front ++ other)) none
  takes_header other (inr (inl empty)) follows =
      let nothing : other ≡ [] = elim follows.some [ inl none ↦ none | inr some ↦ absurd (some empty) ] in
      let same : rest ≡ front ++ other = rest_is ∙ ap (λ l. front ++ l) (empty ∙ sym nothing) in
      subst (λ l. TakesHeader o sample whole (sample_of l) (is_whole l)) same (takes_own o sample whole)
  takes_header other (inr (inr (hdr, line))) follows = takes_line line other hdr follows

  -- its last byte is ASCII, unless it is empty or nothing follows it
  pub front_ends : HeadEnd → ((true ≡ true) × (front ≡ [])) ⊎ ((text ≡ []) ⊎ EndsAscii front)
  front_ends (inl none) = inl (refl, ap (λ n. take n rest) (ap (λ h. behind_row sample (first_if h spans)) none))
  front_ends (inr (inl empty)) = inr (inl empty)
  front_ends (inr (inr (hdr, line))) = inr (inr (line_ascii line))
