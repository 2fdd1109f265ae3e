-- What is counted, and where parts begin.
use Rattle.std.proofs.Common.{◌≡◌, ℕ, zero, suc, ◌+◌, ◌<◌, ◌&&◌, Bool, true, false, cond, List, [], ◌∷◌, ◌++◌, length, refl, sym, ◌∙◌, ap, subst, arith, ◌⊎◌, inl, inr, zero-add}
use Rattle.std.specs.Prelude.{All, None}
use Rattle.std.proofs.lemmas.List.{append-nil}
use Rattle.std.proofs.lemmas.List.Elements.{All-append}
use Rattle.byte_classes.specs.LineEnds.{line_ends}
use Rattle.quote_automaton.specs.declared.state.State.TheVariants.{RowStart}
use Rattle.quote_automaton.specs.Automaton.{state_after}
use Rattle.part_cuts.specs.declared.cut_rule.CutRule.{CutRule}
use Rattle.part_cuts.specs.declared.tally.Tally.{Tally}
use Rattle.part_cuts.specs.Cut.{is_cut}
use Rattle.part_cuts.specs.Laws.{AllIsCounted, IsPartStart, PartsBeginAtCuts, tally_of}
use Rattle.part_cuts.specs.Passed.{passed, rows_begun}
use Rattle.part_cuts.specs.Reading.{Reading, begins_part, begun, behind, reading, reading_from}
use Rattle.part_cuts.proofs.PassedLaws.{passed-cons, passed-nil}

-- ---- what is counted

same_tally : (r : Reading) (t : Bool) (bytes : List ℕ) → (passed (cond t (begun r) r) bytes).tally ≡ (passed r bytes).tally
same_tally r true bytes = refl
same_tally r false bytes = refl

counted : (r : Reading) (bytes seen : List ℕ) → (reading r bytes seen).tally ≡ (passed r bytes).tally
counted r [] seen = ap (λ q. q.tally) (passed-nil r)
counted r (b ∷ bytes) seen =
    let begins : Bool = begins_part r (b ∷ (bytes ++ seen)) in
    let q : Reading = cond begins (begun r) r in
    counted (behind q b) bytes seen ∙ (ap (λ p. p.tally) (passed-cons q b bytes) ∙ same_tally r begins (b ∷ bytes))

tally_is : (rule : CutRule) (bytes lines : ℕ) (front : List ℕ) → (passed (reading_from rule bytes lines) front).tally ≡ tally_of rule bytes lines front
tally_is rule bytes lines front =
    λ i. record { bytes = bytes + length front; lines = lines + line_ends None front; rows = zero-add (rows_begun rule.dialect rule.columns RowStart front) i }

pub all_is_counted : AllIsCounted
all_is_counted rule bytes lines text = counted (reading_from rule bytes lines) text [] ∙ tally_is rule bytes lines text

-- ---- where parts begin

and_first : (a b : Bool) → (a && b) ≡ true → a ≡ true
and_first true b h = refl
and_first false b h = absurd (let no : ⊥ = cc in no)

alone : (P : Tally → Type 0) (t : Tally) → P t → All P (t ∷ [])
alone P t p zero d below = p
alone P t p (suc k) d below = absurd (let h : suc k < 1 = below in let no : ⊥ = omega (arith, h) in no)

-- what a reading has counted at each cut passes the test
AtCuts : (Tally → Type 0) → Reading → List ℕ → List ℕ → Type 0
AtCuts P r bytes seen =
    (front : List ℕ) (b : ℕ) (back : List ℕ) → bytes ≡ front ++ b ∷ back → is_cut r.rule.dialect (state_after r.rule.dialect r.state front) (b ∷ (back ++ seen)) ≡ true → P (passed r front).tally

-- past a byte
at_cuts-behind : (P : Tally → Type 0) (r q : Reading) (b : ℕ) (bytes seen : List ℕ) → (q ≡ begun r) ⊎ (q ≡ r) → AtCuts P r (b ∷ bytes) seen → AtCuts P (behind q b) bytes seen
unfolding AtCuts
at_cuts-behind P r q b bytes seen (inl is) at_cuts =
    subst (λ (p : Reading). AtCuts P (behind p b) bytes seen) (sym is)
    (λ front c back whole cut. subst P (sym (ap (λ p. p.tally) (passed-cons (begun r) b front))) (at_cuts (b ∷ front) c back (ap (λ (l : List ℕ). b ∷ l) whole) cut))
at_cuts-behind P r q b bytes seen (inr is) at_cuts =
    subst (λ (p : Reading). AtCuts P (behind p b) bytes seen) (sym is)
    (λ front c back whole cut. subst P (sym (ap (λ p. p.tally) (passed-cons r b front))) (at_cuts (b ∷ front) c back (ap (λ (l : List ℕ). b ∷ l) whole) cut))

either : (r : Reading) (t : Bool) → (cond t (begun r) r ≡ begun r) ⊎ (cond t (begun r) r ≡ r)
either r true = inl refl
either r false = inr refl

starts_here : (P : Tally → Type 0) (r : Reading) (t : Bool) → (t ≡ true → P r.tally) → All P r.starts → All P (cond t (begun r) r).starts
starts_here P r true here all = All-append P r.starts (r.tally ∷ []) all (alone P r.tally (here refl))
starts_here P r false here all = all

-- so does what it has counted at each start
starts_hold : (P : Tally → Type 0) (r : Reading) (bytes seen : List ℕ) → AtCuts P r bytes seen → All P r.starts → All P (reading r bytes seen).starts
unfolding AtCuts
starts_hold P r [] seen at_cuts all = all
starts_hold P r (b ∷ bytes) seen at_cuts all =
    let begins : Bool = begins_part r (b ∷ (bytes ++ seen)) in
    let here : begins ≡ true → P r.tally =
    λ is. subst P (sym (ap (λ q. q.tally) (passed-nil r))) (at_cuts [] b bytes refl (and_first (is_cut r.rule.dialect r.state (b ∷ (bytes ++ seen))) _ is)) in
    starts_hold P (behind (cond begins (begun r) r) b) bytes seen (at_cuts-behind P r (cond begins (begun r) r) b bytes seen (either r begins) at_cuts) (starts_here P r begins here all)

pub parts_begin_at_cuts : PartsBeginAtCuts
unfolding AtCuts
parts_begin_at_cuts rule bytes lines text =
    let r = reading_from rule bytes lines in
    starts_hold (IsPartStart rule bytes lines text) r text []
    (λ front b back whole cut. record {
      front = front;
      back = b ∷ back;
      whole = whole;
      tally = tally_is rule bytes lines front;
      cut = inr (ap (λ (l : List ℕ). is_cut rule.dialect (state_after rule.dialect RowStart front) (b ∷ l)) (sym (append-nil back)) ∙ cut);
    })
    (alone (IsPartStart rule bytes lines text) r.tally (record { front = []; back = text; whole = refl; tally = ap (λ q. q.tally) (passed-nil r) ∙ tally_is rule bytes lines []; cut = inl refl }))
