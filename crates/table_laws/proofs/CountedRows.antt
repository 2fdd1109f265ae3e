-- How many rows of a text have a verdict.
use Rattle.std.proofs.Common.{◌≡◌, ℕ, suc, ◌+◌, ◌<◌, ◌≤◌, Bool, true, false, ◌&&◌, ◌||◌, not, cond, List, [], ◌∷◌, ◌++◌, map, length, refl, sym, ◌∙◌, ap, arith}
use Rattle.std.specs.Prelude.{Option, None, Some, filter, nat_le, ◌==◌}
use Rattle.std.proofs.lemmas.Bool.{eq-eqb, ne_eqb, leb-false, leb-true}
use Rattle.byte_classes.specs.Class.{class_of, is_line_end}
use Rattle.byte_classes.specs.Dialect.{Marks}
use Rattle.quote_automaton.specs.declared.state.State.{State}
use Rattle.quote_automaton.specs.declared.state.State.TheVariants.{RowStart}
use Rattle.quote_automaton.specs.Automaton.{step}
use Rattle.quote_automaton.specs.Rows.{begins_row, ends_row, row_starts, row_at}
use Rattle.quote_automaton.proofs.RowBegins.{same_end}
use Rattle.quote_automaton.proofs.RowLaws.{row_starts-cons, row_at-cons_zero, row_at-cons_suc}
use Rattle.part_cuts.specs.Passed.{rows_begun}
use Rattle.row_fields.specs.Fields.{fields}
use Rattle.value_types.specs.Datum.{Datum}
use Rattle.reject_book.specs.declared.reject.Reject.{Reject}
use Rattle.reject_book.specs.declared.reject.RowPlace.{RowPlace}
use Rattle.reject_book.specs.declared.reject.Schema.{Schema}
use Rattle.reject_book.specs.Fault.{row_fault, cast_faults}
use Rattle.reject_book.specs.Judging.{cells_of_fields, faulty_or, good_unless, is_blank, verdict_of}
use Rattle.reject_book.specs.Verdict.{Verdict, Blank}
use Rattle.loader_reply.specs.Reading.{verdicts}
use Rattle.table_laws.specs.PartLaws.{is_judged}
use Rattle.table_laws.proofs.CutReading.{judged_are}

-- ---- things that pass a test

count_alike : {X Y : Type 0} (P : Y → Bool) (g : X → Bool) (f : X → Y) → ((x : X) → P (f x) ≡ g x) → (xs : List X) → length (filter P (map f xs)) ≡ length (filter g xs)
count_alike P g f same [] = refl
count_alike P g f same (x ∷ xs) = ap (λ t. length (cond t (f x ∷ filter P (map f xs)) (filter P (map f xs)))) (same x) ∙ by_test (g x) (count_alike P g f same xs) where
  by_test : (t : Bool) → length (filter P (map f xs)) ≡ length (filter g xs) → length (cond t (f x ∷ filter P (map f xs)) (filter P (map f xs))) ≡ length (cond t (x ∷ filter g xs) (filter g xs))
  by_test true rest = ap suc rest
  by_test false rest = rest

-- ---- a row that isn't blank has a verdict

good_judged : (cells : List Datum) (bad : List Reject) → is_judged (good_unless cells bad) ≡ true
good_judged cells [] = refl
good_judged cells (r ∷ bad) = refl

faulty_judged : (v : Verdict (List Datum) Reject) (o : Option Reject) → is_judged v ≡ true → is_judged (faulty_or v o) ≡ true
faulty_judged v None is = is
faulty_judged v (Some r) is = refl

judged_unless : (t : Bool) (v : Verdict (List Datum) Reject) → is_judged v ≡ true → is_judged (cond t Blank v) ≡ not t
judged_unless true v is = refl
judged_unless false v is = is

judged_row : (d : Marks) (schema : Schema) (place : RowPlace) (row : List ℕ) → is_judged (verdict_of d schema place row) ≡ not (is_blank schema row)
judged_row d schema place row =
    let cells : List Datum = cells_of_fields schema schema.types (fields d row) in
    let bad : List Reject = cast_faults d schema place row 1 schema.types (fields d row) in
    judged_unless (is_blank schema row) (faulty_or (good_unless cells bad) (row_fault d schema place row)) (faulty_judged (good_unless cells bad) (row_fault d schema place row) (good_judged cells bad))

-- ---- the rows that count are those that aren't blank

one_column : (n : ℕ) → 1 ≤ n → not (nat_le 2 n) ≡ (n == 1)
one_column n some = by_test (nat_le 2 n) refl where
  by_test : (t : Bool) → nat_le 2 n ≡ t → not t ≡ (n == 1)
  by_test true e = let many : 2 ≤ n = leb-true 2 n e in sym (ne_eqb n 1 (λ one. omega (arith, one, many)))
  by_test false e = let few : n < 2 = leb-false 2 n e in sym (eq-eqb n 1 (omega (arith, few, some)))

module _ (d : Marks) (schema : Schema) (some : 1 ≤ length schema.types) where
  abbrev columns : ℕ
  columns = length schema.types

  abbrev filled : State → List ℕ → ℕ → Bool
  filled s bytes p = not (is_blank schema (row_at d s bytes p))

  first_counts : (e l : Bool) (b : ℕ) (row : List ℕ) → e ≡ (l && true) → not (is_blank schema (cond e [] (b ∷ row))) ≡ (not l || columns == 1)
  first_counts true true b row is = one_column columns some
  first_counts false false b row is = refl
  first_counts true false b row is = absurd (let no : ⊥ = cc in no)
  first_counts false true b row is = absurd (let no : ⊥ = cc in no)

  rows_counted : (s : State) (bytes : List ℕ) → length (filter (filled s bytes) (row_starts d s bytes)) ≡ rows_begun d columns s bytes
  rows_counted s [] = refl
  rows_counted s (b ∷ bytes) =
      ap (λ ks. length (filter (filled s (b ∷ bytes)) ks)) (row_starts-cons d s b bytes)
      ∙ by_begin (begins_row s (class_of d b)) refl (later ∙ rows_counted (step d s b) bytes)
    where
      starts : List ℕ
      starts = row_starts d (step d s b) bytes

      later : length (filter (filled s (b ∷ bytes)) (map suc starts)) ≡ length (filter (filled (step d s b) bytes) starts)
      later = count_alike (filled s (b ∷ bytes)) (filled (step d s b) bytes) suc (λ k. ap (λ row. not (is_blank schema row)) (row_at-cons_suc d s b bytes k)) starts

      by_first : (t : Bool) → length (filter (filled s (b ∷ bytes)) (map suc starts)) ≡ rows_begun d columns (step d s b) bytes →
          length (cond t (0 ∷ filter (filled s (b ∷ bytes)) (map suc starts)) (filter (filled s (b ∷ bytes)) (map suc starts))) ≡ cond t 1 0 + rows_begun d columns (step d s b) bytes
      by_first true rest = omega (arith, rest)
      by_first false rest = omega (arith, rest)

      by_begin : (t : Bool) → begins_row s (class_of d b) ≡ t → length (filter (filled s (b ∷ bytes)) (map suc starts)) ≡ rows_begun d columns (step d s b) bytes →
          length (filter (filled s (b ∷ bytes)) (cond t (0 ∷ []) [] ++ map suc starts)) ≡ cond (t && (not (is_line_end (class_of d b)) || columns == 1)) 1 0 + rows_begun d columns (step d s b) bytes
      by_begin true begins rest =
          let first : filled s (b ∷ bytes) 0 ≡ (not (is_line_end (class_of d b)) || columns == 1) =
          ap (λ row. not (is_blank schema row)) (row_at-cons_zero d s b bytes)
          ∙ first_counts (ends_row s (class_of d b)) (is_line_end (class_of d b)) b (row_at d (step d s b) bytes 0) (same_end s (class_of d b) begins) in
          ap (λ t. length (cond t (0 ∷ filter (filled s (b ∷ bytes)) (map suc starts)) (filter (filled s (b ∷ bytes)) (map suc starts)))) first
          ∙ by_first (not (is_line_end (class_of d b)) || columns == 1) rest
      by_begin false begins rest = omega (arith, rest)

  -- as many rows behind a head have a verdict
  pub verdicts_counted : (file_id : ℕ) (head text : List ℕ) → length (filter is_judged (verdicts file_id d schema (head ++ text) (length head))) ≡ rows_begun d columns RowStart text
  verdicts_counted file_id head text =
      ap (λ vs. length (filter is_judged vs)) (judged_are file_id d schema head text)
      ∙ count_alike is_judged (filled RowStart text) _ (λ p. judged_row d schema _ (row_at d RowStart text p)) (row_starts d RowStart text)
      ∙ rows_counted RowStart text
