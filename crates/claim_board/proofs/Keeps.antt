-- Each step of a board keeps its rule.
use Rattle.std.proofs.Common.{◌≡◌, ℕ, zero, suc, ◌+◌, ◌%◌, ◌^◌, ◌<◌, ◌≤◌, min, ⊎_elim, Bool, true, false, ◌||◌, eqb, cond, List, [], ◌∷◌, length, get_or, set, sum_by, All, sym, refl, ap, ◌∙◌, subst, arith, length-set, length-append, get_or-set_same, lt_of_not-le}
use Rattle.std.proofs.lemmas.List.Elements.{All-append, All-nil}
use Rattle.std.proofs.lemmas.List.Sums.{sum_by-cons, sum_by-append}
use Rattle.std.proofs.lemmas.Bool.Decides.{nat_tests}
use Rattle.atomic_table.specs.Table.{State, Me, step, keeps, stepped, Allows, Splits, Joins, Final, Seen}
use Rattle.atomic_table.proofs.Lists.{at_set, at_snoc}
use Rattle.claim_board.specs.declared.rule.DrawerView.{DrawerView}
use Rattle.claim_board.specs.Rule.{times, once_below, finished, Fits, Kept, IsKept}
use Rattle.claim_board.specs.Steps.{drew, all_drawn, one_fewer, newcomer, joined, over, Claims}
use mathlib.Core.Logic.{dite}
use mathlib.Core.Option.{none, some, some-injective, some-ne-none}
use native.Mathlib.Decide.{dec_le}
use lib.ListN.{get_elem?}

abbrev Mine : Type 0
Mine = Me (Unit {0}) DrawerView

total_set : (f : DrawerView → ℕ) (l : List DrawerView) (i : ℕ) (v w : DrawerView) → get_elem? l i ≡ some v → sum_by f (set l i w) + f v ≡ sum_by f l + f w
total_set f [] i v w e = absurd (some-ne-none v (sym e))
total_set f (x ∷ xs) zero v w e = let same : f x ≡ f v = ap f (some-injective x v e) in omega (arith, sum_by-cons f x xs, sum_by-cons f w xs)
total_set f (x ∷ xs) (suc i) v w e = let r = total_set f xs i v w e in omega (arith, sum_by-cons f x xs, sum_by-cons f x (set xs i w))

finished_le_one : (v : DrawerView) → finished v ≤ 1
finished_le_one v = go (v.done || v.ended)
  where
    go : (b : Bool) → cond b 1 0 ≤ 1
    go true = omega arith
    go false = omega arith

finished_le : (l : List DrawerView) → sum_by finished l ≤ length l
finished_le [] = omega arith
finished_le (x ∷ xs) = omega (arith, finished_le_one x, finished_le xs, sum_by-cons finished x xs)

all_up : (P Q : ℕ → Type 0) (xs : List ℕ) → ((x : ℕ) → P x → Q x) → All P xs → All Q xs
all_up P Q xs up h k d lt = up _ (h k d lt)

just : (P : ℕ → Type 0) (n : ℕ) → P n → All P (n ∷ [])
just P n h zero d lt = h
just P n h (suc k) d lt = absurd (omega arith)

once_more : (x n : ℕ) → once_below x (n + 1) ≡ once_below x n + times x (n ∷ [])
once_more x n = grind (arith, nat_tests)

min_left : (m n : ℕ) → m ≤ n → min m n ≡ m
min_left m n h = omega arith

min_right : (m n : ℕ) → n ≤ m → min m n ≡ n
min_right m n h = omega arith

-- the rule after a step that makes the word m and this view w
placed : (count : ℕ) (s : State (Unit {0}) DrawerView) (m m' id : ℕ) (me : Mine) (w : DrawerView) → length s.words ≡ 1 → m' ≡ m → Kept count m (set s.views id w)
    → IsKept count (stepped s 0 m' id me.1 w keeps)
placed count s m m' id me w wide is k = (length-set s.words 0 m' ∙ wide, subst (λ (z : ℕ). Kept count z (set s.views id w)) (sym (get_or-set_same s.words 0 m' 0 (omega arith) ∙ is)) k)

later : (count n m : ℕ) (v : DrawerView) → n ≤ m → Fits count n v → Fits count m v
later count n m v le f = record {
  ended = f.ended;
  done = λ d. let h = f.done d in omega arith;
  drawn = all_up (λ x. (x < n) × (x < count)) (λ x. (x < m) × (x < count)) v.drawn (λ x h. (omega arith, h.1)) f.drawn;
  same = f.same;
}

others : (count n m : ℕ) (views : List DrawerView) (id : ℕ) (w : DrawerView) → n ≤ m → ((j : ℕ) (v : DrawerView) → get_elem? views j ≡ some v → Fits count n v) → Fits count m w
    → (j : ℕ) (v : DrawerView) → get_elem? (set views id w) j ≡ some v → Fits count m v
others count n m views id w le each mine j v e = ⊎_elim (λ t. subst (λ (u : DrawerView). Fits count m u) t.1 mine) (λ t. later count n m v le (each j v t.1)) (at_set views id j w v e)

pub claims : (count slots id : ℕ) (me : Mine) → me.0.done ≡ false → me.0.ended ≡ false
    → Allows (IsKept count) slots id me 0 (λ n. (n + 1) % 2 ^ 64) (Claims (step slots 0 1 0 none) me)
claims count slots id me undone alive s kept _ at small = let n : ℕ = get_or s.words 0 0 in let k = kept.1 in let v = me.0 in let f = k.each id v at in let same = f.same alive in
    let most = k.most in let reached = k.reached in let some_end = finished_le s.views in let budget = k.budget in
    let fits : (n + 1) % 18446744073709551616 ≡ n + 1 = omega arith in
    dite (dec_le count n)
    (λ past. let w : DrawerView = all_drawn v in
    let was : finished v ≡ 0 = grind (arith, nat_tests) in
    let sum = total_set finished s.views id v w at in (
      w,
      keeps,
      tt,
      placed count s (n + 1) ((n + 1) % 2 ^ 64) id me w kept.0 fits record {
        most = most;
        budget = omega (arith, length-set s.views id w, total_set (λ u. u.splits) s.views id v w at);
        reached = omega arith;
        once = λ x. let was : sum_by (λ u. times x u.drawn) s.views ≡ once_below x count = k.once x ∙ ap (once_below x) (min_right n count past) in
            let now : sum_by (λ u. times x u.drawn) (set s.views id w) ≡ once_below x count = omega (arith, total_set (λ u. times x u.drawn) s.views id v w at) in
            now ∙ ap (once_below x) (sym (min_right (n + 1) count (omega arith)));
        each = others count n (n + 1) s.views id w (omega arith) k.each record { ended = λ z. absurd (cc); done = λ _. omega arith; drawn = (later count n (n + 1) v (omega arith) f).drawn; same = λ _. same };
      },
      (refl, (λ lt. absurd (omega arith)), λ _. refl),
    ))
    (λ below. let lt : n < count = lt_of_not-le below in let w : DrawerView = drew v n in (
      w,
      keeps,
      tt,
      placed count s (n + 1) ((n + 1) % 2 ^ 64) id me w kept.0 fits record {
        most = most;
        budget = omega (arith, length-set s.views id w, total_set (λ u. u.splits) s.views id v w at);
        reached = omega arith;
        once = λ x. let was : sum_by (λ u. times x u.drawn) s.views ≡ once_below x n = k.once x ∙ ap (once_below x) (min_left n count (omega arith)) in
            let now : sum_by (λ u. times x u.drawn) (set s.views id w) ≡ once_below x (n + 1) = omega (arith, once_more x n, total_set (λ u. times x u.drawn) s.views id v w at, sum_by-append (λ y. cond (eqb y x) 1 0) v.drawn (n ∷ [])) in
            now ∙ ap (once_below x) (sym (min_left (n + 1) count (omega arith)));
        each = others count n (n + 1) s.views id w (omega arith) k.each record {
          ended = λ z. absurd (cc);
          done = λ z. absurd (cc);
          drawn = All-append (λ x. (x < n + 1) × (x < count)) v.drawn (n ∷ []) (later count n (n + 1) v (omega arith) f).drawn (just (λ x. (x < n + 1) × (x < count)) n (omega arith, lt));
          same = λ _. same;
        };
      },
      (refl, (λ _. (refl, all_up (λ x. (x < n) × (x < count)) (λ x. x < n) v.drawn (λ x h. h.0) f.drawn)), λ le. absurd (omega arith)),
    ))

pub splits : (count id : ℕ) (v : DrawerView) → 0 < v.splits → v.ended ≡ false → Splits (IsKept count) id v (one_fewer v) (newcomer v)
splits count id v some_left alive s kept at = let n : ℕ = get_or s.words 0 0 in let k = kept.1 in let f = k.each id v at in let same = f.same alive in
    let l = one_fewer v in let r = newcomer v in let views = set s.views id l in
    let mine : Fits count n l = record { ended = λ z. absurd (cc); done = f.done; drawn = f.drawn; same = λ _. same } in
    let new : Fits count n r = record { ended = λ z. absurd (cc); done = λ z. absurd (cc); drawn = All-nil _; same = λ _. same } in (
      kept.0,
      record {
        most = k.most;
        budget = let b = k.budget in omega (arith, length-append views (r ∷ []), length-set s.views id l, sum_by-append (λ u. u.splits) views (r ∷ []), sum_by-cons (λ u. u.splits) r [], total_set (λ u. u.splits) s.views id v l at);
        reached = let b = k.reached in omega (arith, sum_by-append finished views (r ∷ []), total_set finished s.views id v l at);
        once = λ x. omega (arith, k.once x, sum_by-append (λ u. times x u.drawn) views (r ∷ []), total_set (λ u. times x u.drawn) s.views id v l at);
        each = λ j u e. ⊎_elim (λ t. others count n n s.views id l (omega arith) k.each mine j u t) (λ t. subst (λ (z : DrawerView). Fits count n z) t new) (at_snoc views r u j e);
      },
    )

pub joins : (count id other : ℕ) (v w : DrawerView) → v.ended ≡ false → Joins (IsKept count) id v other w (joined v w) over
joins count id other v w alive s kept at apart there = let n : ℕ = get_or s.words 0 0 in let k = kept.1 in let f = k.each id v at in let same = f.same alive in
    let b = joined v w in let views = set s.views id b in
    let g : Fits count n w = ⊎_elim (λ t. absurd (apart t.0)) (λ t. k.each other w t.1) (at_set s.views id other b w there) in
    let both : Fits count n b = record { ended = λ z. absurd (cc); done = f.done; drawn = All-append (λ x. (x < n) × (x < count)) v.drawn w.drawn f.drawn g.drawn; same = λ _. same } in
    let gone : Fits count n over = record { ended = λ _. (refl, refl); done = λ z. absurd (cc); drawn = All-nil _; same = λ z. absurd (cc) } in (
      kept.0,
      record {
        most = k.most;
        budget = let h = k.budget in omega (arith, length-set s.views id b, length-set views other over, total_set (λ u. u.splits) s.views id v b at, total_set (λ u. u.splits) views other w over there);
        reached = let h = k.reached in omega (arith, finished_le_one w, total_set finished s.views id v b at, total_set finished views other w over there);
        once = λ x. omega (arith, k.once x, sum_by-append (λ y. cond (eqb y x) 1 0) v.drawn w.drawn, total_set (λ u. times x u.drawn) s.views id v b at, total_set (λ u. times x u.drawn) views other w over there);
        each = others count n n views other over (omega arith) (others count n n s.views id b (omega arith) k.each both) gone;
      },
    )

-- the view of a drawer that is the only one
sole : (views : List DrawerView) (id : ℕ) (v : DrawerView) → get_elem? views id ≡ some v → length views ≤ 1 → views ≡ v ∷ []
sole [] id v at few = absurd (some-ne-none v (sym at))
sole (x ∷ []) zero v at few = ap (λ u. u ∷ []) (some-injective x v at)
sole (x ∷ []) (suc id) v at few = absurd (some-ne-none v (sym at))
sole (x ∷ y ∷ views) id v at few = absurd (omega arith)

pub alone : (count id : ℕ) (v : DrawerView) (ws : List ℕ) (xs : List (Unit {0})) → Final (Seen (IsKept count) id v) ws xs → v.splits ≡ 63 → (x : ℕ)
    → times x v.drawn ≡ once_below x (min (get_or ws 0 0) count)
alone count id v ws xs (s, seen, is, _, _) whole x =
    let k = seen.0.1 in
    let few : length s.views ≤ 1 = let budget = k.budget in let share = total_set (λ u. u.splits) s.views id v over seen.1 in omega (arith, whole) in
    let total : sum_by (λ u. times x u.drawn) (v ∷ []) ≡ once_below x (min (get_or s.words 0 0) count) =
    subst (λ (l : List DrawerView). sum_by (λ u. times x u.drawn) l ≡ once_below x (min (get_or s.words 0 0) count)) (sole s.views id v seen.1 few) (k.once x) in
    let same : times x v.drawn ≡ once_below x (min (get_or s.words 0 0) count) = let sum = sum_by-cons (λ u. times x u.drawn) v [] in omega (arith, sum, total) in
    subst (λ (l : List ℕ). times x v.drawn ≡ once_below x (min (get_or l 0 0) count)) is same

pub got : (ws : List ℕ) (n : ℕ) → get_elem? ws 0 ≡ some n → get_or ws 0 0 ≡ n
got [] n at = absurd (some-ne-none n (sym at))
got (w ∷ ws) n at = some-injective w n at
