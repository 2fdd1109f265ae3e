-- How many rows each part has is how many of its rows have a verdict.
use Rattle.std.proofs.Common.{◌≡◌, ℕ, ◌+◌, ◌&&◌, ◌||◌, not, true, cond, List, [], ◌∷◌, ◌++◌, length, drop, get_or, refl, sym, ◌∙◌, ap, subst, arith, append_assoc}
use Rattle.std.specs.Prelude.{All, None, filter, ◌==◌}
use Rattle.std.specs.List.{AllByRecursion}
use Rattle.std.proofs.lemmas.List.{append-nil}
use Rattle.std.proofs.lemmas.List.Elements.{All-from_recursion}
use Rattle.byte_classes.specs.Class.{class_of, is_line_end}
use Rattle.byte_classes.specs.Dialect.{Marks}
use Rattle.byte_classes.specs.LineEnds.{line_ends}
use Rattle.quote_automaton.specs.declared.state.State.{State}
use Rattle.quote_automaton.specs.declared.state.State.TheVariants.{RowStart}
use Rattle.quote_automaton.specs.Automaton.{step, state_after}
use Rattle.quote_automaton.specs.Rows.{begins_row}
use Rattle.quote_automaton.proofs.RowBegins.{same_step, begins_as_start}
use Rattle.quote_automaton.proofs.RowLaws.{state_after-append}
use Rattle.part_cuts.specs.declared.cut_rule.CutRule.{CutRule}
use Rattle.part_cuts.specs.declared.part.Part.{Part}
use Rattle.part_cuts.specs.declared.tally.Tally.{Tally}
use Rattle.part_cuts.specs.Cut.{counts_row}
use Rattle.part_cuts.specs.Laws.{tally_of}
use Rattle.part_cuts.specs.Part.{part_between, parts}
use Rattle.part_cuts.specs.Passed.{rows_begun}
use Rattle.part_cuts.proofs.StartLaws.{all_is_counted}
use Rattle.csv_sniffer.specs.declared.found.Sniffed.{Sniffed}
use Rattle.csv_sniffer.specs.Input.{found}
use Rattle.csv_sniffer.specs.Sample.{start_of_sample, sample_of, is_whole}
use Rattle.csv_sniffer.proofs.SniffedLaws.{names_match_types}
use Rattle.loader_reply.specs.Reading.{schema_of}
use Rattle.table_laws.specs.PartLaws.{part_bytes, head_of, data_of, rule_of, input_parts, is_judged, PartRowsAreCounted}
use Rattle.table_laws.proofs.AloneParts.{all_go_on, part_alone}
use Rattle.table_laws.proofs.CutReading.{IsFilledRow, filled_at_cut}
use Rattle.table_laws.proofs.CountedRows.{verdicts_counted}
use Rattle.table_laws.proofs.Divisions.{Divides, last, more, parts_by_first, division, rows_begun-append}
use Rattle.table_laws.proofs.InputParts.{halves}
use Rattle.table_laws.proofs.PartFollows.{PartGoesOn}
use Rattle.table_laws.proofs.PartReadings.{bytes_between}

module _ (rule : CutRule) (head text : List ℕ) where
  abbrev d : Marks
  d = rule.dialect

  abbrev begun : List ℕ → Tally
  begun = tally_of rule (length head) (line_ends None head)

  -- a first byte is read alike in a state and at any start
  abbrev ReadsAlike : State → List ℕ → Type 0
  ReadsAlike s bytes = (b : ℕ) (rest : List ℕ) → bytes ≡ b ∷ rest → (step d s b ≡ step d RowStart b) × (counts_row rule.columns s (class_of d b) ≡ counts_row rule.columns RowStart (class_of d b))

  alike_at_begin : (s : State) (bytes : List ℕ) → IsFilledRow d s bytes → ReadsAlike s bytes
  alike_at_begin s bytes f b rest is =
      let same : f.b ≡ b = (let whole : f.b ∷ f.rest ≡ b ∷ rest = sym f.is ∙ is in cc) in
      let begins : begins_row s (class_of d b) ≡ true = ap (λ c. begins_row s (class_of d c)) (sym same) ∙ f.begins in (
        same_step d s (class_of d b) begins,
        ap (λ t. t && (not (is_line_end (class_of d b)) || rule.columns == 1)) (begins ∙ sym (begins_as_start s (class_of d b) begins)),
      )

  rows_alike : (s : State) (piece back : List ℕ) → ReadsAlike s (piece ++ back) → rows_begun d rule.columns s piece ≡ rows_begun d rule.columns RowStart piece
  rows_alike s [] back alike = refl
  rows_alike s (b ∷ piece) back alike =
      let one = alike b (piece ++ back) refl in
      λ i. cond {A = ℕ} (one.1 i) 1 0 + rows_begun d rule.columns (one.0 i) piece

  -- behind a piece too
  alike_behind : (s : State) (piece back : List ℕ) → ReadsAlike s (piece ++ back) → IsFilledRow d (state_after d RowStart piece) back → ReadsAlike (state_after d s piece) back
  alike_behind s [] back alike f = alike
  alike_behind s (b ∷ piece) back alike f =
      let same : state_after d (step d s b) piece ≡ state_after d (step d RowStart b) piece = ap (λ t. state_after d t piece) (alike b (piece ++ back) refl).0 in
      λ c rest is. let own = alike_at_begin (state_after d (step d RowStart b) piece) back f c rest is in
      (ap (λ t. step d t c) same ∙ own.0, ap (λ t. counts_row rule.columns t (class_of d c)) same ∙ own.1)

  abbrev Counts : Part → Type 0
  Counts part = part.rows ≡ rows_begun d rule.columns RowStart (part_bytes (head ++ text) part)

  one_counts : (front piece back : List ℕ) → text ≡ front ++ (piece ++ back) → ReadsAlike (state_after d RowStart front) (piece ++ back) → Counts (part_between (begun front) (begun (front ++ piece)))
  one_counts front piece back is alike =
      let both = rows_begun-append d rule.columns RowStart front piece in
      let own = rows_alike (state_after d RowStart front) piece back alike in
      let bytes = ap (rows_begun d rule.columns RowStart) (bytes_between rule head text front piece back is) in
      omega (arith, both, own, bytes)

  all_count : (front rest : List ℕ) (starts : List Tally) → Divides rule (length head) (line_ends None head) front rest starts → text ≡ front ++ rest → ReadsAlike (state_after d RowStart front) rest →
      AllByRecursion Counts (parts starts (begun text))
  all_count front rest starts (last f back) is alike =
      let whole : text ≡ f ++ (back ++ []) = is ∙ ap (λ l. f ++ l) (sym (append-nil back)) in
      let one : Counts (part_between (begun f) (begun (f ++ back))) = one_counts f back [] whole (λ b more at. alike b more (sym (append-nil back) ∙ at)) in
      (subst (λ l. Counts (part_between (begun f) (begun l))) (sym is) one, tt)
  all_count front rest starts (more f piece back later cut divides) is alike =
      let f_row : IsFilledRow d (state_after d RowStart piece) back = filled_at_cut d (state_after d RowStart piece) back cut in
      let behind : ReadsAlike (state_after d RowStart (f ++ piece)) back =
      subst (λ s. ReadsAlike s back) (sym (state_after-append d RowStart f piece)) (alike_behind (state_after d RowStart f) piece back alike f_row) in
      subst (AllByRecursion Counts) (sym (parts_by_first rule (length head) (line_ends None head) (begun f) (begun text) (f ++ piece) back later divides))
      (one_counts f piece back is alike, all_count (f ++ piece) back later divides (is ∙ sym (append_assoc f piece back)) behind)

pub part_rows_are_counted : PartRowsAreCounted
part_rows_are_counted o input size accepted =
    let s : Sniffed = found o input in
    let head : List ℕ = head_of o input in
    let text : List ℕ = data_of o input in
    let rule : CutRule = rule_of s size in
    let div = division rule (length head) (line_ends None head) text in
    let counted = all_is_counted rule (length head) (line_ends None head) text in
    let behind : List ℕ = drop (start_of_sample o.skip input) input in
    let law = names_match_types o (sample_of behind) (is_whole behind) accepted in
    let first : ReadsAlike rule head text RowStart text = λ b rest is. (refl, refl) in
    let counts : AllByRecursion (Counts rule head text) (input_parts o input size) =
    subst (λ (ps : List Part). AllByRecursion (Counts rule head text) ps) (λ i. parts (sym div.1 i) (sym counted i)) (all_count rule head text [] text div.0 div.2 refl first) in
    let each : All (Counts rule head text) (input_parts o input size) = All-from_recursion (Counts rule head text) (input_parts o input size) counts in
    let goes : All (PartGoesOn rule head text) (input_parts o input size) = All-from_recursion (PartGoesOn rule head text) (input_parts o input size) (all_go_on o input accepted size) in
    λ k part below.
    each k part below
    ∙ ap (λ l. rows_begun s.dialect (length s.types) RowStart (part_bytes l (get_or (input_parts o input size) k part))) (halves o input)
    ∙ sym (verdicts_counted s.dialect (schema_of o s) law.1 0 head (part_bytes input (get_or (input_parts o input size) k part)))
    ∙ ap (λ vs. length (filter is_judged vs)) (sym (part_alone o input accepted size (get_or (input_parts o input size) k part) (goes k part below)))
