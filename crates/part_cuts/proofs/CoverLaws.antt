-- No cut is missed.
use Rattle.std.proofs.Common.{◌≡◌, ℕ, suc, ◌+◌, ◌*◌, ◌/◌, ◌%◌, ◌<◌, ◌≤◌, ◌&&◌, not, Bool, true, false, cond, List, [], ◌∷◌, ◌++◌, length, refl, sym, ◌∙◌, ap, ap₂, subst, arith}
use Rattle.std.specs.Prelude.{nat_lt}
use Rattle.std.specs.List.{Any}
use Rattle.std.proofs.Math.Nat.{mod-lt, suc-mul}
use Rattle.std.proofs.lemmas.Bool.{ltb-true}
use Rattle.std.proofs.lemmas.List.{append-nil, get_or_append_left, length-append}
use Rattle.std.proofs.lemmas.List.Quantifiers.{Any-push}
use Rattle.std.proofs.lemmas.Nat.{div-add-mod'}
use Rattle.quote_automaton.specs.Automaton.{state_after}
use Rattle.part_cuts.specs.declared.cut_rule.CutRule.{CutRule}
use Rattle.part_cuts.specs.declared.tally.Tally.{Tally}
use Rattle.part_cuts.specs.Cut.{is_cut, multiple_behind}
use Rattle.part_cuts.specs.Laws.{Covers, NoCutIsMissed}
use Rattle.part_cuts.specs.Reading.{Reading, begins_part, begun, behind, reading, reading_from}
use Rattle.part_cuts.proofs.ReadingLaws.{reading_append, reading_bytes}

-- a place lies before the next multiple behind it
before_multiple : (size place : ℕ) → 0 < size → place < multiple_behind size place
before_multiple size place some =
    let one : place / size + 1 ≡ suc (place / size) = omega arith in
    let more : (place / size + 1) * size ≡ place / size * size + size = ap (λ k. k * size) one ∙ suc-mul (place / size) size in
    let parts : place / size * size + place % size ≡ place = div-add-mod' place size in
    let rest : place % size < size = mod-lt place some in
    omega (arith, more, parts, rest)

-- ---- what stays

rule_stays : (r : Reading) (bytes seen : List ℕ) → (reading r bytes seen).rule ≡ r.rule
rule_stays r [] seen = refl
rule_stays r (b ∷ bytes) seen =
    let begins : Bool = begins_part r (b ∷ (bytes ++ seen)) in
    rule_stays (behind (cond begins (begun r) r) b) bytes seen ∙ same begins where
      same : (t : Bool) → (cond t (begun r) r).rule ≡ r.rule
      same true = refl
      same false = refl

state_follows : (r : Reading) (bytes seen : List ℕ) → (reading r bytes seen).state ≡ state_after r.rule.dialect r.state bytes
state_follows r [] seen = refl
state_follows r (b ∷ bytes) seen =
    let begins : Bool = begins_part r (b ∷ (bytes ++ seen)) in
    state_follows (behind (cond begins (begun r) r) b) bytes seen ∙ same begins where
      same : (t : Bool) → state_after (cond t (begun r) r).rule.dialect (behind (cond t (begun r) r) b).state bytes ≡ state_after r.rule.dialect r.state (b ∷ bytes)
      same true = refl
      same false = refl

any_append : (P : Tally → Type 0) (xs ys : List Tally) → Any P xs → Any P (xs ++ ys)
any_append P xs ys (k, x, below, is, p) =
    (k, x, (let long = length-append xs ys in omega (arith, below, long)), get_or_append_left xs ys x k below ∙ is, p)

any_or : (P : Tally → Type 0) (r : Reading) (t : Bool) → Any P r.starts → Any P (cond t (begun r) r).starts
any_or P r true any = any_append P r.starts (r.tally ∷ []) any
any_or P r false any = any

starts_stay : (P : Tally → Type 0) (r : Reading) (bytes seen : List ℕ) → Any P r.starts → Any P (reading r bytes seen).starts
starts_stay P r [] seen any = any
starts_stay P r (b ∷ bytes) seen any =
    let begins : Bool = begins_part r (b ∷ (bytes ++ seen)) in
    starts_stay P (behind (cond begins (begun r) r) b) bytes seen (any_or P r begins any)

-- ---- the multiple that is due

-- it is the next one behind some start
IsDue : Reading → Type 0
IsDue r = Any (λ t. (t.bytes ≤ r.tally.bytes) × (r.due ≡ multiple_behind r.rule.size t.bytes)) r.starts

due_begun : (r : Reading) → IsDue (begun r)
unfolding IsDue
due_begun r = Any-push (λ t. (t.bytes ≤ r.tally.bytes) × (multiple_behind r.rule.size r.tally.bytes ≡ multiple_behind r.rule.size t.bytes)) r.starts r.tally (omega arith, refl)

due_behind : (r : Reading) (b : ℕ) → IsDue r → IsDue (behind r b)
unfolding IsDue
due_behind r b (k, x, below, is, (le, due)) = (k, x, below, is, (omega (arith, le), due))

due_step : (r : Reading) (t : Bool) (b : ℕ) → IsDue r → IsDue (behind (cond t (begun r) r) b)
due_step r true b due = due_behind (begun r) b (due_begun r)
due_step r false b due = due_behind r b due

due_stays : (r : Reading) (bytes seen : List ℕ) → IsDue r → IsDue (reading r bytes seen)
due_stays r [] seen due = due
due_stays r (b ∷ bytes) seen due =
    let begins : Bool = begins_part r (b ∷ (bytes ++ seen)) in
    due_stays (behind (cond begins (begun r) r) b) bytes seen (due_step r begins b due)

-- ---- at a cut

begun_if : (P : Tally → Type 0) (r : Reading) (t : Bool) → t ≡ true → Any P (begun r).starts → Any P (cond t (begun r) r).starts
begun_if P r true is any = any
begun_if P r false is any = absurd (let no : ⊥ = cc in no)

covered : (r : Reading) (b : ℕ) (bytes seen : List ℕ) → 0 < r.rule.size → IsDue r → is_cut r.rule.dialect r.state (b ∷ (bytes ++ seen)) ≡ true →
    Any (Covers r.rule.size r.tally.bytes) (reading r (b ∷ bytes) seen).starts
unfolding IsDue
covered r b bytes seen some (k, x, below, is, (le, due)) cut = by_test (nat_lt r.tally.bytes r.due) refl where
  by_test : (t : Bool) → nat_lt r.tally.bytes r.due ≡ t → Any (Covers r.rule.size r.tally.bytes) (reading r (b ∷ bytes) seen).starts
  by_test true early =
      let before : r.tally.bytes < r.due = ltb-true r.tally.bytes r.due early in
      starts_stay (Covers r.rule.size r.tally.bytes) r (b ∷ bytes) seen (k, x, below, is, (le, subst (λ (n : ℕ). r.tally.bytes < n) due before))
  by_test false late =
      let begins : begins_part r (b ∷ (bytes ++ seen)) ≡ true = ap₂ (λ s t. s && not t) cut late in
      starts_stay (Covers r.rule.size r.tally.bytes) (behind (cond (begins_part r (b ∷ (bytes ++ seen))) (begun r) r) b) bytes seen
      (begun_if (Covers r.rule.size r.tally.bytes) r (begins_part r (b ∷ (bytes ++ seen))) begins
      (Any-push (Covers r.rule.size r.tally.bytes) r.starts r.tally (omega arith, before_multiple r.rule.size r.tally.bytes some)))

pub no_cut_is_missed : NoCutIsMissed
no_cut_is_missed rule bytes lines front [] some cut = absurd (let no : ⊥ = cc in no)
no_cut_is_missed rule bytes lines front (b ∷ back) some cut =
    let r : Reading = reading_from rule bytes lines in
    let rest : List ℕ = b ∷ (back ++ []) in
    let q : Reading = reading r front rest in
    let same : q.rule ≡ rule = rule_stays r front rest in
    let place : q.tally.bytes ≡ bytes + length front = reading_bytes r front rest in
    let cut_here : is_cut q.rule.dialect q.state (b ∷ (back ++ [])) ≡ true =
    (λ i. is_cut (same i).dialect (state_follows r front rest i) (b ∷ append-nil back i)) ∙ cut in
    let due : IsDue q = due_stays r front rest (due_begun (record { rule = rule; state = r.state; before = r.before; tally = r.tally; due = 0; starts = [] })) in
    let any : Any (Covers q.rule.size q.tally.bytes) (reading q (b ∷ back) []).starts = covered q b back [] (subst (λ (u : CutRule). 0 < u.size) (sym same) some) due cut_here in
    subst (λ (p : Reading). Any (Covers rule.size (bytes + length front)) p.starts) (reading_append r front (b ∷ back) [])
    (subst (λ (n : ℕ). Any (Covers rule.size n) (reading q (b ∷ back) []).starts) place
    (subst (λ (u : CutRule). Any (Covers u.size q.tally.bytes) (reading q (b ∷ back) []).starts) same any))
