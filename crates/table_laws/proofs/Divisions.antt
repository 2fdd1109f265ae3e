-- Where parts begin the data are divided at cuts.
use Rattle.std.proofs.Common.{◌≡◌, ℕ, ◌+◌, ◌&&◌, Bool, true, false, cond, List, [], ◌∷◌, ◌++◌, length, refl, sym, ◌∙◌, ap, subst, arith, append_assoc, add_assoc, zero-add, length-append}
use Rattle.std.specs.Prelude.{None}
use Rattle.std.specs.List.{last_or}
use Rattle.std.proofs.lemmas.List.{append-nil}
use Rattle.byte_classes.specs.Class.{class_of}
use Rattle.byte_classes.specs.Dialect.{Marks}
use Rattle.byte_classes.specs.LineEnds.{line_ends, ends_physical_line}
use Rattle.byte_classes.proofs.LineEndLaws.{line_ends-append, last_or-append}
use Rattle.quote_automaton.specs.declared.state.State.{State}
use Rattle.quote_automaton.specs.declared.state.State.TheVariants.{RowStart}
use Rattle.quote_automaton.specs.Automaton.{step, state_after}
use Rattle.quote_automaton.specs.Rows.{begins_row}
use Rattle.quote_automaton.proofs.RowBegins.{same_step}
use Rattle.quote_automaton.proofs.RowLaws.{state_after-append}
use Rattle.part_cuts.specs.declared.cut_rule.CutRule.{CutRule}
use Rattle.part_cuts.specs.declared.tally.Tally.{Tally}
use Rattle.part_cuts.specs.Cut.{counts_row, begins_filled, is_cut, multiple_behind}
use Rattle.part_cuts.specs.Laws.{tally_of}
use Rattle.part_cuts.specs.Part.{part_between, parts}
use Rattle.part_cuts.specs.Passed.{rows_begun}
use Rattle.part_cuts.specs.Reading.{Reading, begins_part, begun, behind, reading, reading_from}

pub and_first : (a b : Bool) → (a && b) ≡ true → a ≡ true
and_first true b h = refl
and_first false b h = absurd (let no : ⊥ = cc in no)

-- the rows of two lists are those of the first, and those of the second read from the state after the first
pub rows_begun-append : (d : Marks) (columns : ℕ) (s : State) (xs ys : List ℕ) → rows_begun d columns s (xs ++ ys) ≡ rows_begun d columns s xs + rows_begun d columns (state_after d s xs) ys
rows_begun-append d columns s [] ys = sym (zero-add (rows_begun d columns s ys))
rows_begun-append d columns s (x ∷ xs) ys =
    let one : ℕ = cond (counts_row columns s (class_of d x)) 1 0 in
    ap (λ n. one + n) (rows_begun-append d columns (step d s x) xs ys)
    ∙ sym (add_assoc one (rows_begun d columns (step d s x) xs) (rows_begun d columns (state_after d (step d s x) xs) ys))

module _ (rule : CutRule) (bytes lines : ℕ) where
  abbrev pub before : List ℕ → Tally
  before = tally_of rule bytes lines

  -- from behind a front on a text is divided at cuts into parts, each of which is read as a text of its own
  pub data Divides : List ℕ → List ℕ → List Tally → Type 0 where
    last : (front text : List ℕ) → Divides front text (before front ∷ [])
    more : (front piece back : List ℕ) (starts : List Tally) → is_cut rule.dialect (state_after rule.dialect RowStart piece) back ≡ true → Divides (front ++ piece) back starts →
        Divides front (piece ++ back) (before front ∷ starts)

  -- a part goes up to where the next one begins
  pub parts_by_first : (t end : Tally) (front text : List ℕ) (starts : List Tally) → Divides front text starts → parts (t ∷ starts) end ≡ part_between t (before front) ∷ parts starts end
  parts_by_first t end front text starts (last f rest) = refl
  parts_by_first t end front text starts (more f piece back later cut rest) = refl

  -- what is known behind some of the data
  abbrev known : List ℕ → ℕ → List Tally → Reading
  known read due starts = record {
    rule = rule;
    state = state_after rule.dialect RowStart read;
    before = last_or None read;
    tally = before read;
    due = due;
    starts = starts;
  }

  known_behind : (read : List ℕ) (due : ℕ) (starts : List Tally) (b : ℕ) → behind (known read due starts) b ≡ known (read ++ b ∷ []) due starts
  known_behind read due starts b =
      let d : Marks = rule.dialect in
      let s : State = state_after d RowStart read in
      let one : ℕ = cond (ends_physical_line (last_or None read) b) 1 0 in
      let row : ℕ = cond (counts_row rule.columns s (class_of d b)) 1 0 in
      let all : bytes + length read + 1 ≡ bytes + length (read ++ b ∷ []) = omega (arith, length-append read (b ∷ [])) in
      let more_ends : line_ends None (read ++ b ∷ []) ≡ line_ends None read + (one + 0) = line_ends-append None read (b ∷ []) in
      let more_rows : rows_begun d rule.columns RowStart (read ++ b ∷ []) ≡ rows_begun d rule.columns RowStart read + (row + 0) = rows_begun-append d rule.columns RowStart read (b ∷ []) in
      let ends : lines + line_ends None read + one ≡ lines + line_ends None (read ++ b ∷ []) = omega (arith, more_ends) in
      let rows : rows_begun d rule.columns RowStart read + row ≡ rows_begun d rule.columns RowStart (read ++ b ∷ []) = omega (arith, more_rows) in
      λ i. record {
        rule = rule;
        state = sym (state_after-append d RowStart read (b ∷ [])) i;
        before = sym (last_or-append None read (b ∷ [])) i;
        tally = record { bytes = all i; lines = ends i; rows = rows i };
        due = due;
        starts = starts;
      }

  -- where parts begin from behind a front on, of which some bytes are read
  abbrev DividesOn : List ℕ → List ℕ → Reading → List ℕ → List Tally → Type 0
  DividesOn front text r rest old = (tail : List Tally) × ((reading r rest []).starts ≡ old ++ tail) × Divides front text tail

  -- some bytes stand behind a front, and a row begins where they begin
  abbrev BeginsAlike : List ℕ → List ℕ → List ℕ → Type 0
  BeginsAlike read front piece = (front ++ piece ≡ read) × (state_after rule.dialect RowStart piece ≡ state_after rule.dialect RowStart read)

  divided : (read front piece rest : List ℕ) (due : ℕ) (old : List Tally) → BeginsAlike read front piece → DividesOn front (piece ++ rest) (known read due (old ++ before front ∷ [])) rest old
  divided read front piece [] due old begins = (before front ∷ [], refl, last front (piece ++ []))
  divided read front piece (b ∷ rest) due old begins =
      by_test (begins_part r (b ∷ (rest ++ []))) refl (λ from own next earlier alike. divided (read ++ b ∷ []) from own rest next earlier alike) where
        d : Marks
        d = rule.dialect

        starts : List Tally
        starts = old ++ before front ∷ []

        r : Reading
        r = known read due starts

        s : State
        s = state_after d RowStart read

        On : Type 0
        On = (from own : List ℕ) (next : ℕ) (earlier : List Tally) → BeginsAlike (read ++ b ∷ []) from own → DividesOn from (own ++ rest) (known (read ++ b ∷ []) next (earlier ++ before from ∷ [])) rest earlier

        by_test : (t : Bool) → begins_part r (b ∷ (rest ++ [])) ≡ t → On → DividesOn front (piece ++ b ∷ rest) (behind (cond t (begun r) r) b) rest old
        by_test false e on =
            let same : state_after d RowStart (piece ++ b ∷ []) ≡ state_after d RowStart (read ++ b ∷ []) =
            state_after-append d RowStart piece (b ∷ []) ∙ ap (λ t. step d t b) begins.1 ∙ sym (state_after-append d RowStart read (b ∷ [])) in
            let later = on front (piece ++ b ∷ []) due old (sym (append_assoc front piece (b ∷ [])) ∙ ap (λ l. l ++ b ∷ []) begins.0, same) in (
              later.0,
              ap (λ p. (reading p rest []).starts) (known_behind read due starts b) ∙ later.1,
              subst (λ l. Divides front l later.0) (append_assoc piece (b ∷ []) rest) later.2,
            )
        by_test true e on =
            let multiple : ℕ = multiple_behind rule.size (bytes + length read) in
            let cut : is_cut d s (b ∷ (rest ++ [])) ≡ true = and_first (is_cut d s (b ∷ (rest ++ []))) _ e in
            let own : step d s b ≡ step d RowStart b = same_step d s (class_of d b) (and_first (begins_row s (class_of d b)) _ (and_first (begins_filled s (class_of d b)) _ cut)) in
            let later = on read (b ∷ []) multiple starts (refl, sym own ∙ sym (state_after-append d RowStart read (b ∷ []))) in (
              before front ∷ later.0,
              ap (λ p. (reading p rest []).starts) (known_behind read multiple (starts ++ before read ∷ []) b) ∙ later.1 ∙ append_assoc old (before front ∷ []) later.0,
              more front piece (b ∷ rest) later.0 ((λ i. is_cut d (begins.1 i) (b ∷ sym (append-nil rest) i)) ∙ cut) (subst (λ l. Divides l (b ∷ rest) later.0) (sym begins.0) later.2),
            )

  from_start : reading_from rule bytes lines ≡ known [] (multiple_behind rule.size bytes) (before [] ∷ [])
  from_start =
      let all : bytes ≡ bytes + 0 = omega arith in
      let ends : lines ≡ lines + 0 = omega arith in
      let none : ◌≡◌ {A = Tally} (record { bytes = bytes; lines = lines; rows = 0 }) (before []) = λ i. record { bytes = all i; lines = ends i; rows = 0 } in
      λ i. record { rule = rule; state = RowStart; before = None; tally = none i; due = multiple_behind rule.size bytes; starts = none i ∷ [] }

  -- the parts that a reading finds are such a division
  pub division : (text : List ℕ) → (starts : List Tally) × ((reading (reading_from rule bytes lines) text []).starts ≡ starts) × Divides [] text starts
  division text =
      let on = divided [] [] [] text (multiple_behind rule.size bytes) [] (refl, refl) in
      (on.0, ap (λ r. (reading r text []).starts) from_start ∙ on.1, on.2)
