-- What is read of data is what is read of each part alone.
use Rattle.std.proofs.Common.{◌≡◌, ℕ, zero, suc, ◌+◌, ◌-◌, ◌||◌, ◌&&◌, Bool, true, false, cond, not, List, [], ◌∷◌, ◌++◌, length, take, drop, refl, sym, ◌∙◌, ap, arith, append_assoc, length-append}
use Rattle.std.specs.Prelude.{Option, None, Some, flat_map, ◌==◌}
use Rattle.std.specs.List.{last_or}
use Rattle.std.proofs.lemmas.List.{append-nil, map-append}
use Rattle.std.proofs.Math.Seq.{take-append_seam, drop-append_seam, take-append-add, drop-append-add}
use Rattle.byte_classes.specs.Dialect.{Marks, is_byte}
use Rattle.byte_classes.specs.LineEnds.{line_ends}
use Rattle.byte_classes.proofs.LineEndLaws.{line_ends-append}
use Rattle.quote_automaton.specs.declared.state.State.TheVariants.{RowStart}
use Rattle.quote_automaton.specs.Automaton.{state_after}
use Rattle.part_cuts.specs.declared.cut_rule.CutRule.{CutRule}
use Rattle.part_cuts.specs.declared.part.Part.{Part}
use Rattle.part_cuts.specs.declared.tally.Tally.{Tally}
use Rattle.part_cuts.specs.Laws.{tally_of}
use Rattle.part_cuts.specs.Part.{part_between, parts}
use Rattle.part_cuts.specs.Reading.{Reading, reading, reading_from}
use Rattle.part_cuts.proofs.StartLaws.{all_is_counted}
use Rattle.value_types.specs.Datum.{Datum}
use Rattle.reject_book.specs.declared.reject.Reject.{Reject}
use Rattle.reject_book.specs.declared.reject.Schema.{Schema}
use Rattle.reject_book.specs.Verdict.{Verdict}
use Rattle.csv_sniffer.specs.Pairs.{parts_pair, opens_with_lf}
use Rattle.loader_reply.specs.Reading.{verdicts}
use Rattle.table_laws.specs.PartLaws.{all_placed, part_bytes, part_verdicts, PartsAreReadAlone}
use Rattle.table_laws.proofs.CutReading.{IsFilledRow, filled_at_cut, cuts_are_read_alone}
use Rattle.table_laws.proofs.CutRows.{lines_alike, taken_lines_alike}
use Rattle.table_laws.proofs.Divisions.{Divides, last, more, parts_by_first, division}
use Rattle.table_laws.proofs.PlacedTwice.{all_placed_twice, all_placed_here}

-- physical lines end alike behind one byte and another
abbrev EndsAlike : Option ℕ → Option ℕ → List ℕ → Type 0
EndsAlike before other text = (k : ℕ) → line_ends before (take k text) ≡ line_ends other (take k text)

-- behind a cut
alike_at_cut : (before other : Option ℕ) (d : Marks) (front back : List ℕ) (f : IsFilledRow d (state_after d RowStart front) back) → EndsAlike before other back
alike_at_cut before other d front back f k =
    ap (λ l. line_ends before (take k l)) f.is ∙ taken_lines_alike before other f.b f.rest k f.filled ∙ sym (ap (λ l. line_ends other (take k l)) f.is)

-- where the data begin, between no CR and its LF
alike_at_start : (before : Option ℕ) (text : List ℕ) → (is_byte before 13 && opens_with_lf text) ≡ false → EndsAlike before None text
alike_at_start before [] apart zero = refl
alike_at_start before [] apart (suc k) = refl
alike_at_start before (b ∷ text) apart zero = refl
alike_at_start before (b ∷ text) apart (suc k) = by_lf (b == 10) refl apart where
  by_lf : (t : Bool) → (b == 10) ≡ t → (is_byte before 13 && t) ≡ false → line_ends before (b ∷ take k text) ≡ line_ends None (b ∷ take k text)
  by_lf true is none =
      let other : is_byte before 13 ≡ false = no_cr (is_byte before 13) none in
      ap (λ c. cond {A = ℕ} ((b == 13) || ((b == 10) && not c)) 1 0 + line_ends (Some b) (take k text)) other
    where
      no_cr : (c : Bool) → (c && true) ≡ false → c ≡ false
      no_cr true h = h
      no_cr false h = refl
  by_lf false is none = lines_alike before None b (take k text) is

-- the bytes between two places
pub bytes_between : (rule : CutRule) (head text front piece back : List ℕ) → text ≡ front ++ (piece ++ back) →
    part_bytes (head ++ text) (part_between (tally_of rule (length head) (line_ends None head) front) (tally_of rule (length head) (line_ends None head) (front ++ piece))) ≡ piece
bytes_between rule head text front piece back is =
    let n : ℕ = length head + length front in
    let long = length-append front piece in
    let count : n + ((length head + length (front ++ piece)) - n) - n ≡ length piece + 0 = omega (arith, long) in
    let rest : drop n (head ++ text) ≡ piece ++ back = drop-append-add head text (length front) ∙ ap (drop (length front)) is ∙ drop-append_seam front (piece ++ back) in
    (λ i. take (count i) (rest i)) ∙ take-append-add piece back 0 ∙ append-nil piece

module _ (file_id : ℕ) (rule : CutRule) (schema : Schema) (head text_bytes : List ℕ) where
  abbrev d : Marks
  d = rule.dialect

  abbrev begun : List ℕ → Tally
  begun = tally_of rule (length head) (line_ends None head)

  abbrev read : List ℕ → List (Verdict (List Datum) Reject)
  read text = verdicts file_id d schema (head ++ text) (length head)

  abbrev input : List ℕ
  input = head ++ text_bytes

  abbrev part_read : Part → List (Verdict (List Datum) Reject)
  part_read = part_verdicts file_id d schema head input

  -- a part between two places
  part_is : (front piece back : List ℕ) → text_bytes ≡ front ++ (piece ++ back) →
      part_read (part_between (begun front) (begun (front ++ piece))) ≡ all_placed (line_ends None front) (length front) (read piece)
  part_is front piece back is =
      let lines : line_ends None head + line_ends None front + 1 - 1 - line_ends None head ≡ line_ends None front = omega arith in
      let bytes : length head + length front - length head ≡ length front = omega arith in
      λ i. all_placed (lines i) (bytes i) (read (bytes_between rule head text_bytes front piece back is i))

  -- what is read from behind a front on is what is read of each of its parts
  parts_read : (front text : List ℕ) (starts : List Tally) → Divides rule (length head) (line_ends None head) front text starts → text_bytes ≡ front ++ text →
      EndsAlike (last_or None head) (last_or None front) text →
      all_placed (line_ends None front) (length front) (read text) ≡ flat_map part_read (parts starts (begun text_bytes))
  parts_read front text starts (last f rest) is alike =
      let whole : text_bytes ≡ f ++ (rest ++ []) = is ∙ ap (λ l. f ++ l) (sym (append-nil rest)) in
      sym (append-nil _ ∙ ap (λ l. part_read (part_between (begun f) (begun l))) is ∙ part_is f rest [] whole)
  parts_read front text starts (more f piece back later cut rest) is alike =
      let filled : IsFilledRow d (state_after d RowStart piece) back = filled_at_cut d (state_after d RowStart piece) back cut in
      let l : ℕ = line_ends None f in
      let own : ℕ = line_ends (last_or None head) piece in
      let lines : l + own ≡ line_ends None (f ++ piece) =
      ap (λ p. l + line_ends (last_or None head) p) (sym (take-append_seam piece back)) ∙ ap (λ n. l + n) (alike (length piece))
      ∙ ap (λ p. l + line_ends (last_or None f) p) (take-append_seam piece back) ∙ sym (line_ends-append None f piece) in
      let bytes : length f + length piece ≡ length (f ++ piece) = sym (length-append f piece) in
      let on = parts_read (f ++ piece) back later rest (is ∙ sym (append_assoc f piece back)) (alike_at_cut (last_or None head) (last_or None (f ++ piece)) d piece back filled) in
      ap (all_placed l (length f)) (cuts_are_read_alone file_id d schema head piece back cut)
      ∙ map-append _ (read piece) (all_placed own (length piece) (read back))
      ∙ ap (λ vs. all_placed l (length f) (read piece) ++ vs) (all_placed_twice l (length f) own (length piece) (read back) ∙ (λ i. all_placed (lines i) (bytes i) (read back)) ∙ on)
      ∙ ap (λ vs. vs ++ flat_map part_read (parts later (begun text_bytes))) (sym (part_is f piece back is))
      ∙ ap (flat_map part_read) (sym (parts_by_first rule (length head) (line_ends None head) (begun f) (begun text_bytes) (f ++ piece) back later rest))

-- a place that parts no pair, by what stands before and behind it
pub no_pair_behind : (head text : List ℕ) → parts_pair (head ++ text) (length head) ≡ false → (is_byte (last_or None head) 13 && opens_with_lf text) ≡ false
no_pair_behind head text apart = (λ i. is_byte (last_or None (sym (take-append_seam head text) i)) 13 && opens_with_lf (sym (drop-append_seam head text) i)) ∙ apart

pub parts_are_read_alone : PartsAreReadAlone
parts_are_read_alone file_id rule schema head text apart =
    let n : ℕ = length head in
    let lines : ℕ = line_ends None head in
    let r : Reading = reading (reading_from rule n lines) text [] in
    let div = division rule n lines text in
    sym (all_placed_here _)
    ∙ parts_read file_id rule schema head text [] text div.0 div.2 refl (alike_at_start (last_or None head) text (no_pair_behind head text apart))
    ∙ (λ i. flat_map (part_verdicts file_id rule.dialect schema head (head ++ text)) (parts (sym div.1 i) (sym (all_is_counted rule n lines text) i)))
