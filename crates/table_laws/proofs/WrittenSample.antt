-- The first sampled row of a text whose first row lies in a sample.
use Rattle.std.proofs.Common.{◌≡◌, ◌≢◌, ℕ, zero, suc, ◌+◌, ◌-◌, ◌<◌, ◌≤◌, Bool, true, false, cond, ◌&&◌, not, List, [], ◌∷◌, ◌++◌, map, length, take, refl, sym, ◌∙◌, ap, subst, arith, length-append}
use Rattle.std.specs.Prelude.{filter, nat_lt}
use Rattle.std.proofs.lemmas.Bool.{ne_eqb, lt-ltb}
use Rattle.std.proofs.Math.Bool.{and-false}
use Rattle.csv_source.specs.Lists.{is_empty}
use Rattle.byte_classes.specs.Dialect.{Marks}
use Rattle.byte_classes.specs.Class.{class_of}
use Rattle.quote_automaton.specs.declared.state.State.{State}
use Rattle.quote_automaton.specs.declared.state.State.TheVariants.{RowStart}
use Rattle.quote_automaton.specs.Automaton.{next, step, state_after}
use Rattle.quote_automaton.specs.Rows.{row_starts, row_end}
use Rattle.quote_automaton.proofs.RowLaws.{row_starts-cons, row_end-cons_zero}
use Rattle.row_fields.proofs.RowReading.{RowRead, not_inside}
use Rattle.row_fields.proofs.TextReading.{begins_in_row, row_end-in_row}
use Rattle.dialect_rank.specs.Sampled.{Span, filled_rows, is_last_cut, without_last, sampled_spans}
use Rattle.csv_sniffer.specs.Sniffed.{has_whole_row}
use Rattle.table_laws.proofs.EarlyRows.{EndEarly, early-take, without_last-early, to_span, early-rows}

-- the first row ends before its LF
first_end : (d : Marks) (row more : List ℕ) → RowRead d RowStart row → row_end d RowStart (row ++ 10 ∷ more) 0 ≡ length row
first_end d row more r =
    let t : State = state_after d RowStart row in
    let lf : row_end d t (10 ∷ more) 0 ≡ 0 = row_end-cons_zero d t 10 more ∙ ap (λ q. cond (not q) 0 (suc (row_end d (step d t 10) more 0))) (not_inside t r.closed) in
    let same : length row + 0 ≡ length row = omega arith in
    row_end-in_row d RowStart row (10 ∷ more) r.inside ∙ ap (λ n. length row + n) lf ∙ same

-- the first filled row of a sample that begins with a row and its LF
first_filled : (d : Marks) (row more : List ℕ) → row ≢ [] → RowRead d RowStart row → (spans : List Span) × (filled_rows d (row ++ 10 ∷ more) ≡ (0, length row) ∷ spans)
first_filled d [] more some r = absurd (some refl)
first_filled d (x ∷ xs) more some r =
    let sample : List ℕ = x ∷ (xs ++ 10 ∷ more) in
    let later : List ℕ = map suc (row_starts d (step d RowStart x) (xs ++ 10 ∷ more)) in
    let filled : Span → Bool = λ span. nat_lt span.0 span.1 in
    let rest : List Span = filter filled (map (to_span d sample) later) in
    let n : ℕ = length (x ∷ xs) in
    let starts : row_starts d RowStart sample ≡ 0 ∷ later =
    row_starts-cons d RowStart x (xs ++ 10 ∷ more) ∙ ap (λ t. cond t (0 ∷ []) [] ++ later) (begins_in_row d (class_of d x) r.inside.0.stays) in (
      rest,
      ap (λ ps. filter filled (map (to_span d sample) ps)) starts
          ∙ ap (λ e. cond (nat_lt 0 e) ((0, e) ∷ rest) rest) (first_end d (x ∷ xs) more r)
          ∙ ap (λ t. cond t ((0, n) ∷ rest) rest) (lt-ltb 0 n (omega arith)),
    )

-- ---- the sampled rows

-- the first row is sampled, and is whole
pub record FirstRow (sample : List ℕ) (whole : Bool) (spans : List Span) (first : Span) : Type 0 where
  pub more : List Span
  pub is : spans ≡ first ∷ more
  pub whole_row : has_whole_row sample whole spans ≡ true

uncut : (sample : List ℕ) (whole : Bool) (spans more : List Span) (first : Span) → spans ≡ first ∷ more → is_last_cut sample whole spans ≡ false → FirstRow sample whole spans first
uncut sample whole spans more first is cut = record {
  more = more;
  is = is;
  whole_row = (λ i. not (is_empty (is i)) && not (cut i));
}

cut_rows : (sample : List ℕ) (whole : Bool) (first : Span) (more : List Span) → first.1 < length sample → EndEarly (length sample) (first ∷ more) → FirstRow sample whole (without_last (first ∷ more)) first
cut_rows sample whole first [] inside early =
    uncut sample whole (first ∷ []) [] first refl (ap (λ t. not whole && t) (ne_eqb first.1 (length sample) (λ e. omega (arith, e, inside))) ∙ and-false (not whole))
cut_rows sample whole first (next ∷ more) inside early =
    let spans : List Span = first ∷ (next ∷ more) in
    let several : nat_lt 1 (length spans) ≡ true = lt-ltb 1 (length spans) (omega arith) in
    let less : length spans - 1 ≡ suc (length more) = omega arith in
    let is : without_last spans ≡ take (length spans - 1) spans = ap (λ t. cond t (take (length spans - 1) spans) spans) several in
    uncut sample whole (without_last spans) (take (length more) (next ∷ more)) first (is ∙ ap (λ k. take k spans) less)
    (ap (is_last_cut sample whole) is ∙ ap (λ t. not whole && t) (without_last-early (length sample) spans early) ∙ and-false (not whole))

pub sampled : (sample : List ℕ) (whole : Bool) (first : Span) (spans more : List Span) → spans ≡ first ∷ more → first.1 < length sample → EndEarly (length sample) spans →
    FirstRow sample whole (cond (is_last_cut sample whole spans) (without_last spans) spans) first
sampled sample whole first spans more is inside early = by_cut (is_last_cut sample whole spans) refl where
  by_cut : (t : Bool) → is_last_cut sample whole spans ≡ t → FirstRow sample whole (cond t (without_last spans) spans) first
  by_cut true cut = subst (λ s. FirstRow sample whole (without_last s) first) (sym is) (cut_rows sample whole first more inside (subst (EndEarly (length sample)) is early))
  by_cut false cut = uncut sample whole spans more first is cut

pub first_row : (d : Marks) (row more : List ℕ) (whole : Bool) (size : ℕ) → row ≢ [] → RowRead d RowStart row → 1 ≤ size →
    FirstRow (row ++ 10 ∷ more) whole (sampled_spans d (row ++ 10 ∷ more) whole size) (0, length row)
first_row d row more whole zero some r asked = absurd (let no : ⊥ = omega (arith, asked) in no)
first_row d row more whole (suc size) some r asked =
    let sample : List ℕ = row ++ 10 ∷ more in
    let first = first_filled d row more some r in
    sampled sample whole (0, length row) (take (suc size) (filled_rows d sample)) (take size first.0) (ap (take (suc size)) first.1)
    (omega (arith, length-append row (10 ∷ more)))
    (early-take (length sample) (suc size) (filled_rows d sample) (early-rows d sample))
