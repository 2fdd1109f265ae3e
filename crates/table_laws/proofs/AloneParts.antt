-- Each part of an input is loaded alone.
use Rattle.std.proofs.Common.{get_or, ◌≡◌, ◌≢◌, ◌⊎◌, ℕ, ◌+◌, false, List, [], ◌∷◌, ◌++◌, length, take, drop, refl, sym, ◌∙◌, ap, subst, arith, append_assoc, length-append}
use Rattle.std.specs.Prelude.{All, Option, None, flat_map, nat_eq}
use Rattle.std.specs.List.{AllByRecursion, last_or, starts_with}
use Rattle.std.proofs.lemmas.List.{take-append-drop}
use Rattle.std.proofs.lemmas.List.Elements.{All-from_recursion}
use Rattle.std.proofs.Math.Seq.{drop-append_seam, take-append-add, drop-append-add}
use Rattle.byte_classes.specs.ByteOrderMark.{byte_order_mark}
use Rattle.byte_classes.specs.LineEnds.{line_ends}
use Rattle.byte_classes.proofs.LineEndLaws.{last_or-append}
use Rattle.load_options.specs.declared.options.Options.{Options}
use Rattle.load_options.specs.Accepted.{IsAccepted}
use Rattle.part_cuts.specs.declared.cut_rule.CutRule.{CutRule}
use Rattle.part_cuts.specs.declared.part.Part.{Part}
use Rattle.part_cuts.specs.Part.{parts}
use Rattle.part_cuts.proofs.StartLaws.{all_is_counted}
use Rattle.csv_sniffer.specs.declared.found.Sniffed.{Sniffed}
use Rattle.csv_sniffer.specs.Input.{found}
use Rattle.csv_sniffer.specs.Sample.{start_of_sample, sample_of, is_whole}
use Rattle.csv_sniffer.specs.Sniffed.{sniffed}
use Rattle.csv_sniffer.proofs.LineStarts as lines
use Rattle.value_types.specs.Datum.{Datum}
use Rattle.reject_book.specs.declared.reject.Reject.{Reject}
use Rattle.reject_book.specs.Verdict.{Verdict}
use Rattle.loader_reply.specs.Reading.{reading, schema_of, verdicts, table_rows, faults}
use Rattle.table_laws.specs.PartLaws.{all_placed, alone, part_bytes, part_verdicts, head_of, data_of, rule_of, input_parts, lines_before, bytes_before, IsFoundBehind, PartsAreFoundAlike, PartsAreLoadedAlone}
use Rattle.table_laws.proofs.AloneFound.{IsFoundAlone, found_alone}
use Rattle.table_laws.proofs.Divisions.{division}
use Rattle.table_laws.proofs.HeadLines.{Follows, follow_on}
use Rattle.table_laws.proofs.HeadMark.{SampleBegins, sample_begins, bare_again}
use Rattle.table_laws.proofs.HeadTaken.{HeadEnd, head_end, takes_header, front_ends, front_long}
use Rattle.table_laws.proofs.InputParts.{halves, no_pair, read_by_parts}
use Rattle.table_laws.proofs.PartFollows.{GoesOn, PartGoesOn, goes_at_start, parts_go_on, flat_alike}
use Rattle.table_laws.proofs.PartReadings.{no_pair_behind}
use Rattle.table_laws.proofs.PartSums.{rows_of_all, faults_of_all}

-- what stands before a line matters where the line is empty alone
near_apart : (o : Option ℕ) (line other : List ℕ) → lines.parts (last_or o line) other ≡ false → lines.parts (last_or None line) other ≡ false
near_apart o [] other apart = refl
near_apart o (x ∷ line) other apart = apart

module _ (o : Options) (input : List ℕ) (accepted : IsAccepted o) where
  abbrev s : Sniffed
  s = found o input

  abbrev head : List ℕ
  head = head_of o input

  abbrev text : List ℕ
  text = data_of o input

  b : SampleBegins o.skip input
  b = sample_begins o.skip input

  -- what stands behind that which is skipped: the last part of the head, and the data
  abbrev behind : List ℕ
  behind = drop (start_of_sample o.skip input) input

  behind_is : behind ≡ b.rest
  behind_is = (λ i. drop (b.start i) (b.is i)) ∙ drop-append_seam b.front b.rest

  abbrev line : List ℕ
  line = take s.data_start behind

  head_is : head ≡ b.front ++ line
  head_is = (λ i. take (b.start i + s.data_start) (b.is i)) ∙ take-append-add b.front b.rest s.data_start ∙ ap (λ l. b.front ++ take s.data_start l) (sym behind_is)

  text_is : text ≡ drop s.data_start behind
  text_is = (λ i. drop (b.start i + s.data_start) (b.is i)) ∙ drop-append-add b.front b.rest s.data_start ∙ ap (drop s.data_start) (sym behind_is)

  rest_is : b.rest ≡ line ++ text
  rest_is = sym behind_is ∙ sym (take-append-drop s.data_start behind) ∙ ap (λ l. line ++ l) (sym text_is)

  last_is : last_or None head ≡ last_or (last_or None b.front) line
  last_is = ap (last_or None) head_is ∙ last_or-append None b.front line

  end : HeadEnd o behind
  end = head_end o behind

  nothing_before : b.front ≡ [] → line ≡ [] → head ≡ []
  nothing_before first second = head_is ∙ (λ i. first i ++ second i)

  bare_line : b.front ≡ [] → starts_with nat_eq (line ++ text) byte_order_mark ≡ false
  bare_line none = ap (λ l. starts_with nat_eq l byte_order_mark) (sym rest_is) ∙ b.bare none

  goes_first : (xs ys : List ℕ) → text ≡ xs ++ ys → GoesOn head text xs
  goes_first xs ys is =
      goes_at_start head text xs ys (no_pair_behind head text (no_pair o input))
      (λ none. ap (λ l. starts_with nat_eq l byte_order_mark) (sym (ap (λ l. l ++ text) (no_line none))) ∙ bare_line (no_front none)) is
    where
      no_front : head ≡ [] → b.front ≡ []
      no_front none = first_none b.front line (sym head_is ∙ none) where
        first_none : (xs ys : List ℕ) → xs ++ ys ≡ [] → xs ≡ []
        first_none [] ys h = refl
        first_none (x ∷ xs) ys h = absurd (let no : ⊥ = cc in no)

      no_line : head ≡ [] → line ≡ []
      no_line none = second_none b.front line (sym head_is ∙ none) where
        second_none : (xs ys : List ℕ) → xs ++ ys ≡ [] → ys ≡ []
        second_none [] ys h = h
        second_none (x ∷ xs) ys h = absurd (let no : ⊥ = cc in no)

  -- the same is found behind the head
  found_behind : (other : List ℕ) → GoesOn head text other → IsFoundBehind (alone o s) s head other
  found_behind other goes =
      let y : List ℕ = head ++ other in
      let split : y ≡ b.front ++ (line ++ other) = ap (λ h. h ++ other) head_is ∙ append_assoc b.front line other in
      let follows : Follows (last_or (last_or None b.front) line) text other = subst (λ c. Follows c text other) last_is goes.follows in
      let on : Follows (last_or None b.front) b.rest (line ++ other) = follow_on (last_or None b.front) line text other b.rest rest_is b.apart follows in
      let ends = front_ends o behind end in
      let bare : b.front ≡ [] → starts_with nat_eq (line ++ other) byte_order_mark ≡ false =
      λ none. bare_again line (drop s.data_start behind) other (ap (λ l. starts_with nat_eq (line ++ l) byte_order_mark) (sym text_is) ∙ bare_line none) (subst (λ (t : List ℕ). (other ≡ []) ⊎ (t ≢ [])) text_is follows.some) ends
      (λ empty. goes.bare (nothing_before none empty)) in
      let start : start_of_sample o.skip y ≡ length b.front = ap (start_of_sample o.skip) split ∙ b.again (line ++ other) on bare in
      let rest : drop (start_of_sample o.skip y) y ≡ line ++ other = (λ i. drop (start i) (split i)) ∙ drop-append_seam b.front (line ++ other) in
      let near : Follows (last_or None line) (drop s.data_start behind) other =
      record { apart = near_apart (last_or None b.front) line other follows.apart; some = subst (λ (t : List ℕ). (other ≡ []) ⊎ (t ≢ [])) text_is follows.some } in
      let line_long = front_long o behind in
      let own : IsFoundAlone (sniffed (alone o s) (sample_of (line ++ other)) (is_whole (line ++ other))) s =
      found_alone o (sample_of behind) (is_whole behind) accepted (sample_of (line ++ other)) (is_whole (line ++ other)) (takes_header o behind other end near) in
      let f : IsFoundAlone (found (alone o s) y) s = subst (λ l. IsFoundAlone (sniffed (alone o s) (sample_of l) (is_whole l)) s) (sym rest) own in
      let long = length-append b.front line in
      let whole = ap length head_is in
      record { dialect = f.dialect; names = f.names; types = f.types; place = omega (arith, start, f.start, long, whole, line_long) }

  -- so it is read as under what was found
  read_alone : (other : List ℕ) → GoesOn head text other → reading (alone o s) (head ++ other) ≡ verdicts 0 s.dialect (schema_of o s) (head ++ other) (length head)
  read_alone other goes =
      let f : IsFoundBehind (alone o s) s head other = found_behind other goes in
      λ i. verdicts 0 (f.dialect i) (record {
        names = f.names i;
        types = f.types i;
        nullstr = o.nullstr;
        nulls = o.nulls;
        allow_quoted_nulls = o.allow_quoted_nulls;
        null_padding = o.null_padding;
        max_line_size = o.max_line_size;
      }) (head ++ other) (f.place i)

  -- each part goes on behind the head
  pub all_go_on : (size : ℕ) → AllByRecursion (PartGoesOn (rule_of s size) head text) (input_parts o input size)
  all_go_on size =
      let rule : CutRule = rule_of s size in
      let div = division rule (length head) (line_ends None head) text in
      let counted = all_is_counted rule (length head) (line_ends None head) text in
      subst (λ (ps : List Part). AllByRecursion (PartGoesOn rule head text) ps) (λ i. parts (sym div.1 i) (sym counted i)) (parts_go_on rule head text [] text div.0 div.2 refl goes_first)

  pub part_alone : (size : ℕ) (part : Part) → PartGoesOn (rule_of s size) head text part →
      reading (alone o s) (head ++ part_bytes input part) ≡ verdicts 0 s.dialect (schema_of o s) (head ++ part_bytes input part) (length head)
  part_alone size part goes = read_alone (part_bytes input part) (subst (λ l. GoesOn head text (part_bytes l part)) (halves o input) goes)

  pub part_found : (size : ℕ) (part : Part) → PartGoesOn (rule_of s size) head text part → IsFoundBehind (alone o s) s head (part_bytes input part)
  part_found size part goes = found_behind (part_bytes input part) (subst (λ l. GoesOn head text (part_bytes l part)) (halves o input) goes)

  abbrev placed_part : Part → List (Verdict (List Datum) Reject) → List (Verdict (List Datum) Reject)
  placed_part part vs = all_placed (lines_before head part) (bytes_before head part) vs

  pub loaded_alone : (size : ℕ) → reading o input ≡ flat_map (λ part. placed_part part (reading (alone o s) (head ++ part_bytes input part))) (input_parts o input size)
  loaded_alone size =
      read_by_parts o input size
      ∙ sym (flat_alike (PartGoesOn (rule_of s size) head text) (λ part. placed_part part (reading (alone o s) (head ++ part_bytes input part)))
      (part_verdicts 0 s.dialect (schema_of o s) head input) (λ part goes. ap (placed_part part) (part_alone size part goes)) (input_parts o input size) (all_go_on size))

pub parts_are_found_alike : PartsAreFoundAlike
parts_are_found_alike o input size accepted =
    let all : All (PartGoesOn (rule_of (found o input) size) (head_of o input) (data_of o input)) (input_parts o input size) = All-from_recursion (PartGoesOn (rule_of (found o input) size) (head_of o input) (data_of o input)) (input_parts o input size) (all_go_on o input accepted size) in
    λ k part below. part_found o input accepted size (get_or (input_parts o input size) k part) (all k part below)

pub parts_are_loaded_alone : PartsAreLoadedAlone
parts_are_loaded_alone o input size accepted =
    let head : List ℕ = head_of o input in
    let read = λ (part : Part). reading (alone o (found o input)) (head ++ part_bytes input part) in
    record {
      rows = ap table_rows (loaded_alone o input accepted size) ∙ rows_of_all (lines_before head) (bytes_before head) read (input_parts o input size);
      faults = ap faults (loaded_alone o input accepted size) ∙ faults_of_all (lines_before head) (bytes_before head) read (input_parts o input size);
    }
