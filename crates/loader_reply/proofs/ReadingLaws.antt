-- The one-pass reading is the part of the whole data.
use Rattle.std.proofs.Common.{◌≡◌, ℕ, zero, suc, ◌+◌, ◌-◌, ◌≤◌, Bool, true, false, not, ◌&&◌, ◌||◌, cond, List, [], ◌∷◌, map, length, take, drop, refl, sym, ◌∙◌, ap, arith}
use Rattle.std.specs.Prelude.{Option, None, Some, ◌==◌, flat_map}
use Rattle.std.proofs.lemmas.List.{take_all}
use Rattle.std.proofs.Math.Bool.{and-false}
use Rattle.std.proofs.Math.Seq.{take-add}
use Rattle.byte_classes.specs.Dialect.{Marks, is_byte}
use Rattle.byte_classes.specs.LineEnds.{line_ends}
use Rattle.byte_classes.proofs.LineEndLaws.{line_ends-append}
use Rattle.quote_automaton.specs.declared.state.State.TheVariants.{RowStart}
use Rattle.quote_automaton.specs.Rows.{row_starts, row_at}
use Rattle.value_types.specs.Datum.{Datum}
use Rattle.byte_classes.specs.Places.{byte_before}
use Rattle.reject_book.specs.declared.reject.Reject.{Reject}
use Rattle.reject_book.specs.declared.reject.Schema.{Schema}
use Rattle.reject_book.specs.Judging.{judge_of}
use Rattle.reject_book.specs.Kept.{raised}
use Rattle.reject_book.specs.Verdict.{Verdict, cells_of, faults_of, map_faults}
use Rattle.range_scan.specs.Part.{verdict_at, verdicts}
use Rattle.range_scan.proofs.JoinLaws.{flat_map-cells, flat_map-faults}
use Rattle.range_scan.proofs.JudgeLaws.{rows_are_judged_alike}
use Rattle.csv_sniffer.specs.Pairs.{parts_pair, opens_with_lf}
use Rattle.loader_reply.specs.Reading as reading
use Rattle.loader_reply.specs.Laws.{data_part, AreOfPart}

-- an LF that follows no CR ends a line also without the byte before
ends_alike : (cr lf : Bool) → cr && lf ≡ false → lf && not cr ≡ lf && true
ends_alike true true apart = absurd (let wrong : ⊥ = cc in wrong)
ends_alike true false apart = refl
ends_alike false lf apart = refl

line_ends-unpaired : (before : Option ℕ) (bytes : List ℕ) → is_byte before 13 && opens_with_lf bytes ≡ false → line_ends before bytes ≡ line_ends None bytes
line_ends-unpaired before [] apart = refl
line_ends-unpaired before (b ∷ bytes) apart = ap (λ c. cond (b == 13 || c) 1 0 + line_ends (Some b) bytes) (ends_alike (is_byte before 13) (b == 10) apart)

-- a front of some bytes opens with an LF only where they do
opens-take : (before : Option ℕ) (bytes : List ℕ) (p : ℕ) → is_byte before 13 && opens_with_lf bytes ≡ false → is_byte before 13 && opens_with_lf (take p bytes) ≡ false
opens-take before bytes zero apart = and-false (is_byte before 13)
opens-take before [] (suc p) apart = apart
opens-take before (b ∷ bytes) (suc p) apart = apart

module _ (file_id : ℕ) (d : Marks) (schema : Schema) (input : List ℕ) (start : ℕ) (apart : parts_pair input start ≡ false) where
  abbrev bytes : List ℕ
  bytes = drop start input

  abbrev lines : ℕ
  lines = line_ends None (take start input)

  -- the verdict of a row is that in the data alone, on a line that is raised by the lines before
  row_judged : (p : ℕ) → reading.verdict_at file_id d schema input start p ≡ map_faults (raised lines) (verdict_at (judge_of d schema 0 file_id) d None start bytes RowStart p)
  row_judged p =
      let ends : line_ends None (take (start + p) input) ≡ lines + line_ends None (take p bytes) =
      ap (line_ends None) (take-add start p input) ∙ line_ends-append None (take start input) (take p bytes)
      ∙ ap (λ n. lines + n) (line_ends-unpaired (byte_before input start) (take p bytes) (opens-take (byte_before input start) bytes p apart)) in
      let line : 1 + line_ends None (take (start + p) input) ≡ lines + (1 + line_ends None (take p bytes)) = omega (arith, ends) in
      (λ i. judge_of d schema 0 file_id (line i) (start + p) (row_at d RowStart bytes p))
      ∙ rows_are_judged_alike d schema 0 file_id lines (1 + line_ends None (take p bytes)) (start + p) (row_at d RowStart bytes p)

  rows_judged : (ks : List ℕ) → map (reading.verdict_at file_id d schema input start) ks ≡ map (map_faults (raised lines)) (map (verdict_at (judge_of d schema 0 file_id) d None start bytes RowStart) ks)
  rows_judged [] = refl
  rows_judged (k ∷ ks) = λ i. row_judged k i ∷ rows_judged ks i

  -- the verdicts of the part of all data
  part_verdicts : verdicts (judge_of d schema 0 file_id) d bytes start 0 (length bytes) RowStart ≡ map (verdict_at (judge_of d schema 0 file_id) d None start bytes RowStart) (row_starts d RowStart bytes)
  part_verdicts =
      let same : length bytes ≤ length bytes - 0 = omega arith in
      let place : start + 0 ≡ start = omega arith in
      λ i. map (verdict_at (judge_of d schema 0 file_id) d None (place i) bytes RowStart) (row_starts d RowStart (take_all (length bytes - 0) bytes same i))

  all_judged : reading.verdicts file_id d schema input start ≡ map (map_faults (raised lines)) (verdicts (judge_of d schema 0 file_id) d bytes start 0 (length bytes) RowStart)
  all_judged = rows_judged (row_starts d RowStart bytes) ∙ ap (map (map_faults (raised lines))) (sym part_verdicts)

  pub verdicts_are_of_part : AreOfPart (reading.verdicts file_id d schema input start) lines (data_part file_id d schema input start)
  verdicts_are_of_part =
      let vs : List (Verdict (List Datum) Reject) = verdicts (judge_of d schema 0 file_id) d bytes start 0 (length bytes) RowStart in
      record {
        rows = ap (flat_map cells_of) all_judged ∙ flat_map-cells (raised lines) vs;
        faults = ap (flat_map faults_of) all_judged ∙ flat_map-faults (raised lines) vs;
      }
