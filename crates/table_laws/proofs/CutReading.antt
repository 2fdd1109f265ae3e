-- Behind a head, data that are cut are read on both sides of the cut alone.
use Rattle.std.proofs.Common.{◌≡◌, ℕ, ◌+◌, ◌<◌, true, false, not, List, [], ◌∷◌, ◌++◌, map, length, take, refl, sym, ◌∙◌, ap, arith, append_assoc}
use Rattle.std.specs.Prelude.{None, ◌==◌, nat_eq}
use Rattle.std.specs.List.{last_or, starts_with}
use Rattle.std.proofs.lemmas.Bool.{and_parts, not-true}
use Rattle.std.proofs.lemmas.List.{map-append, take-append-le}
use Rattle.std.proofs.Math.Seq.{take-append-add, drop-append_seam}
use Rattle.byte_classes.specs.Dialect.{Marks}
use Rattle.byte_classes.specs.ByteOrderMark.{byte_order_mark}
use Rattle.byte_classes.specs.Class.{class_of, is_line_end}
use Rattle.byte_classes.specs.LineEnds.{line_ends}
use Rattle.byte_classes.proofs.LineEndLaws.{line_ends-append}
use Rattle.quote_automaton.specs.declared.state.State.{State}
use Rattle.quote_automaton.specs.declared.state.State.TheVariants.{RowStart}
use Rattle.quote_automaton.specs.Automaton.{state_after}
use Rattle.quote_automaton.specs.Rows.{begins_row, is_row_start, row_starts, row_at}
use Rattle.quote_automaton.proofs.RowLaws.{row_starts-append, row_at-append, raised, map-filter_range}
use Rattle.part_cuts.specs.Cut.{begins_filled, is_cut}
use Rattle.value_types.specs.Datum.{Datum}
use Rattle.reject_book.specs.declared.reject.Reject.{Reject}
use Rattle.reject_book.specs.declared.reject.Schema.{Schema}
use Rattle.reject_book.specs.Judging.{judge_of}
use Rattle.reject_book.specs.Verdict.{Verdict, map_faults}
use Rattle.loader_reply.specs.Reading.{verdicts}
use Rattle.table_laws.specs.PartLaws.{placed, all_placed, CutsAreReadAlone}
use Rattle.table_laws.proofs.CutRows.{row_before, starts_alike, row_alike, not_lf, taken_lines_alike}
use Rattle.table_laws.proofs.PlacedFaults.{placed_alike}

-- where the bytes may be cut a row of at least one byte begins
pub record IsFilledRow (d : Marks) (s : State) (back : List ℕ) : Type 0 where
  pub b : ℕ
  pub rest : List ℕ
  pub is : back ≡ b ∷ rest
  pub begins : begins_row s (class_of d b) ≡ true
  pub filled : (b == 10) ≡ false

pub filled_at_cut : (d : Marks) (s : State) (back : List ℕ) → is_cut d s back ≡ true → IsFilledRow d s back
filled_at_cut d s [] cut = absurd (let no : ⊥ = cc in no)
filled_at_cut d s (b ∷ rest) cut =
    let both = and_parts (begins_row s (class_of d b)) (not (is_line_end (class_of d b))) (and_parts (begins_filled s (class_of d b)) (not (starts_with nat_eq (b ∷ rest) byte_order_mark)) cut).0 in
    record { b = b; rest = rest; is = refl; begins = both.0; filled = not_lf d b (not-true (is_line_end (class_of d b)) both.1) }

module _ (file_id : ℕ) (d : Marks) (schema : Schema) (head : List ℕ) where
  abbrev JudgedRow : Type 0
  JudgedRow = Verdict (List Datum) Reject

  abbrev judge : ℕ → ℕ → List ℕ → JudgedRow
  judge = judge_of d schema 0 file_id

  -- the verdict of the row that begins at a place of the data behind the head
  abbrev judged : List ℕ → ℕ → JudgedRow
  judged text p = judge (1 + line_ends None (head ++ take p text)) (length head + p) (row_at d RowStart text p)

  abbrev judged_rows : List ℕ → List JudgedRow
  judged_rows text = map (judged text) (row_starts d RowStart text)

  pub judged_are : (text : List ℕ) → verdicts file_id d schema (head ++ text) (length head) ≡ judged_rows text
  judged_are text = λ i.
      map (λ p. judge (1 + line_ends None (take-append-add head text p i)) (length head + p) (row_at d RowStart (drop-append_seam head text i) p))
      (row_starts d RowStart (drop-append_seam head text i))

  module _ (front : List ℕ) (b : ℕ) (rest : List ℕ) (begins : begins_row (state_after d RowStart front) (class_of d b) ≡ true) (filled : (b == 10) ≡ false) where
    abbrev lines : ℕ
    lines = line_ends (last_or None head) front

    -- a row before the cut
    judged_before : (k : ℕ) → k < 0 + length front → judged (front ++ b ∷ rest) k ≡ judged front k
    judged_before k below =
        let inside : k < length front = omega (arith, below) in
        (λ i. judge (1 + line_ends None (head ++ take-append-le k front (b ∷ rest) (omega (arith, inside)) i)) (length head + k) (row_before d RowStart front b rest k begins inside i))

    -- a row from the cut on
    judged_behind : (k : ℕ) → judged (front ++ b ∷ rest) (length front + k) ≡ map_faults (placed lines (length front)) (judged (b ∷ rest) k)
    judged_behind k =
        let own : List ℕ = take k (b ∷ rest) in
        let taken : head ++ take (length front + k) (front ++ b ∷ rest) ≡ (head ++ front) ++ own = ap (λ l. head ++ l) (take-append-add front (b ∷ rest) k) ∙ sym (append_assoc head front own) in
        let whole = ap (line_ends None) taken ∙ line_ends-append None (head ++ front) own in
        let before = line_ends-append None head front in
        let alone = line_ends-append None head own in
        let same = taken_lines_alike (last_or None (head ++ front)) (last_or None head) b rest k filled in
        let line : 1 + line_ends None (head ++ take (length front + k) (front ++ b ∷ rest)) ≡ lines + (1 + line_ends None (head ++ own)) = omega (arith, whole, before, alone, same) in
        let start : length head + (length front + k) ≡ length front + (length head + k) = omega arith in
        let row : row_at d RowStart (front ++ b ∷ rest) (length front + k) ≡ row_at d RowStart (b ∷ rest) k =
        row_at-append d RowStart front (b ∷ rest) k ∙ row_alike d (state_after d RowStart front) b rest begins k in
        (λ i. judge (line i) (start i) (row i))
        ∙ placed_alike d schema lines (length front) (record { scan_id = 0; file_id = file_id; line = 1 + line_ends None (head ++ own); start = length head + k }) (row_at d RowStart (b ∷ rest) k)

    all_behind : (ks : List ℕ) → map (judged (front ++ b ∷ rest)) (raised (length front) ks) ≡ all_placed lines (length front) (map (judged (b ∷ rest)) ks)
    all_behind [] = refl
    all_behind (k ∷ ks) = λ i. judged_behind k i ∷ all_behind ks i

    pub judged_cut : judged_rows (front ++ b ∷ rest) ≡ judged_rows front ++ all_placed lines (length front) (judged_rows (b ∷ rest))
    judged_cut =
        let each : ℕ → JudgedRow = judged (front ++ b ∷ rest) in
        let starts : row_starts d RowStart (front ++ b ∷ rest) ≡ row_starts d RowStart front ++ raised (length front) (row_starts d RowStart (b ∷ rest)) =
        row_starts-append d RowStart front (b ∷ rest)
        ∙ ap (λ ks. row_starts d RowStart front ++ raised (length front) ks) (starts_alike d (state_after d RowStart front) b rest begins) in
        ap (map each) starts
        ∙ map-append each (row_starts d RowStart front) (raised (length front) (row_starts d RowStart (b ∷ rest)))
        ∙ (λ i.
        map-filter_range each (judged front) (is_row_start d RowStart front) 0 (length front) judged_before i
        ++ all_behind (row_starts d RowStart (b ∷ rest)) i)

pub cuts_are_read_alone : CutsAreReadAlone
cuts_are_read_alone file_id d schema head front back cut =
    let f : IsFilledRow d (state_after d RowStart front) back = filled_at_cut d (state_after d RowStart front) back cut in
    let read : List ℕ → List (Verdict (List Datum) Reject) = λ text. verdicts file_id d schema (head ++ text) (length head) in
    let n : ℕ = line_ends (last_or None head) front in
    ap (λ l. read (front ++ l)) f.is
    ∙ judged_are file_id d schema head (front ++ f.b ∷ f.rest)
    ∙ judged_cut file_id d schema head front f.b f.rest f.begins f.filled
    ∙ (λ i. sym (judged_are file_id d schema head front) i ++ all_placed n (length front) (sym (judged_are file_id d schema head (f.b ∷ f.rest)) i))
    ∙ ap (λ l. read front ++ all_placed n (length front) (read l)) (sym f.is)
