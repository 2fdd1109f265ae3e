-- Where no stage has a pass any more, a window that doesn't stand is in the queue.
use Rattle.std.proofs.Common.{◌≡◌, ℕ, suc, ◌+◌, ◌-◌, ◌<◌, ◌≤◌, inl, inr, true≢false, false, List, [], ◌∷◌, length, map, drop, set, sum_by, sym, refl, ap, ◌∙◌, subst, ⊎_elim, arith, length-append, length-drop, vec_len, lt_of_not-le}
use Rattle.std.specs.Prelude.{Option, Some, None, IfSome, IfNone, is_some}
use Rattle.std.proofs.lemmas.List.{length-map}
use Rattle.std.proofs.lemmas.Bool.Decides.{nat_tests}
use mathlib.Core.Logic.{dite}
use mathlib.Core.Option.{some}
use native.Mathlib.Decide.{dec_le}
use lib.ListN.{get_elem?}
use Rattle.crossbeam_queue.proofs.Lists.{at_set}
use Rattle.pipe_load.specs.declared.pass_view.PassView.{PassView}
use Rattle.pipe_load.specs.declared.pass_view.Role.{Role}
use Rattle.pipe_load.specs.declared.pass_view.Role.TheVariants as roles
use Rattle.pipe_load.specs.declared.slots.Slots.{Slots}
use Rattle.pipe_load.specs.declared.window.Item.{Item}
use Rattle.pipe_load.specs.declared.window.Item.TheVariants as item
use Rattle.pipe_load.specs.declared.window.Window.{Window}
use Rattle.pipe_load.specs.PassViews.{after_take, items_taken, spent_view}
use Rattle.pipe_load.specs.Rule.{times, once_below, end_marks, one_if_stage, Fits, Ruled, IsRuled, WasEmpty}
use Rattle.pipe_load.specs.Slots.{slot_of, Holds, Pops, IsAllHeld}
use Rattle.pipe_load.proofs.Lists.{sum_set, sum_covers, sum_none, stands}

-- a pass that is neither the caller's nor a stage's has nothing
nothing_else : (put : List Window) (marks stages caller id : ℕ) (v : PassView) (r : Role) → v.role ≡ r → (id ≡ caller → ⊥) → one_if_stage v.role ≡ 0 → Fits put marks stages caller id v → v.taken ≡ []
nothing_else put marks stages caller id v roles.Caller is apart none f = absurd (apart (f.puts is).0)
nothing_else put marks stages caller id v roles.Stage is apart none f = let one : one_if_stage v.role ≡ 1 = ap one_if_stage is in absurd (let never : ⊥ = omega (arith, one, none) in never)
nothing_else put marks stages caller id v roles.Joined is apart none f = (f.joined is).0

module _ (put : List Window) (taken marks_left marks stages caller : ℕ) (items : List Item) (views : List PassView) (r : Ruled put taken marks_left marks stages caller items views)
    (id : ℕ) (v : PassView) (at : get_elem? views id ≡ some v) (may : v.role ≡ roles.Caller) (none : v.stages ≡ 0) where
  -- no other pass has a window
  others_none : (j : ℕ) (u : PassView) → (j ≡ id → ⊥) → get_elem? views j ≡ some u → u.taken ≡ []
  others_none j u other e =
      let is : (id ≡ caller) × (v.put ≡ put) × (v.puts ≡ length put + marks) × (v.stages ≡ stages) = (r.each id v at).puts may in
      let share : one_if_stage u.role ≤ sum_by (λ y. one_if_stage y.role) views = sum_covers (λ y. one_if_stage y.role) views j u e in
      let stages_is = is.3 in
      let zero_share : one_if_stage u.role ≡ 0 = omega (arith, share, r.apart, stages_is, none) in
      nothing_else put marks stages caller j u u.role refl (λ same. other (same ∙ sym is.0)) zero_share (r.each j u e)

  -- so the caller has each window that was taken, once
  has_all : (k : ℕ) → times k v.taken ≡ once_below k taken
  has_all k =
      let f : PassView → ℕ = λ u. times k u.taken in
      let empty : times k [] ≡ 0 = grind arith in
      let rest : sum_by f (set views id spent_view) ≡ 0 =
      sum_none f (set views id spent_view) (λ j u e. ⊎_elim (λ t. ap f (sym t.1) ∙ empty) (λ t. ap (times k) (others_none j u t.0 t.1) ∙ empty) (at_set views id j spent_view u e)) in
      omega (arith, rest, empty, r.once k, sum_set f views id v spent_view at)

  -- where nothing is in the queue all that was put was taken
  took_all : length items ≡ 0 → length put ≤ taken
  took_all nothing =
      let lengths : length items ≡ length (map item.Window (drop taken put)) + length (end_marks marks_left) = ap length r.holds ∙ length-append (map item.Window (drop taken put)) (end_marks marks_left) in
      omega (arith, nothing, lengths, length-map (drop taken put) item.Window, length-drop taken put)

  pub stands_already : (n : ℕ) (slots : Slots) → length items ≡ 0 → IsAllHeld n slots v → n < vec_len slots.slots → Holds slots n
  stands_already n slots nothing h within = dite (dec_le (suc n) (length v.put))
      (λ here.
      let is : (id ≡ caller) × (v.put ≡ put) × (v.puts ≡ length put + marks) × (v.stages ≡ stages) = (r.each id v at).puts may in
      let lengths : length v.put ≡ length put = ap length is.1 in
      let below : n < taken = omega (arith, here, lengths, took_all nothing) in
      let once : once_below n taken ≡ 1 = grind (arith, nat_tests) in
      let one : 0 < times n v.taken = omega (arith, once, has_all n) in
      let place = stands n v.taken one in
      let empty : Window = record { number = 0; bytes = [] } in
      let number = place.2 empty in
      subst (Holds slots) number (h.taken place.0 empty place.1 (omega (arith, number))))
      (λ there. let far : length v.put < suc n = lt_of_not-le there in h.behind n (omega arith) (omega (arith, far)) within)

-- a window that stands nowhere: the queue wasn't empty
pub nothing_missing : (n : ℕ) (slots : Slots) (v : PassView) → v.role ≡ roles.Caller → WasEmpty v → IsAllHeld n slots v → n < vec_len slots.slots → Holds slots n
nothing_missing n slots v may (items, nothing, m) h within = at_moment m.rule
  where
    at_moment : IsRuled items m.views → Holds slots n
    at_moment (put, taken, marks_left, marks, stages, caller, r) = stands_already put taken marks_left marks stages caller items m.views r m.id v m.knows may h.joined n slots nothing h within

pub not_there : (slots : Slots) (n : ℕ) → slot_of slots n ≡ None → Holds slots n → ⊥
not_there slots n none h = let no : is_some (slot_of slots n) ≡ false = ap is_some none in true≢false (sym h ∙ no)

-- whatever a pop finds, the pass stays whose it is
pub took_role : (v w : PassView) (o : Option Item) → IfSome o (λ x. w ≡ after_take v x) → IfNone o (w ≡ v) → w.role ≡ v.role
took_role v w (Some (item.Window x)) is _ = ap (λ (u : PassView). u.role) is
took_role v w (Some item.EndMark) is _ = ap (λ (u : PassView). u.role) is
took_role v w None _ is = ap (λ (u : PassView). u.role) is

-- each item that is taken leaves one less of those that were put
one_less : (v w : PassView) (x : Item) → w ≡ after_take v x → items_taken w ≤ w.puts → w.puts - items_taken w < v.puts - items_taken v
one_less v w (item.Window y) is most =
    let put : w.puts ≡ v.puts = ap (λ u. u.puts) is in
    let windows : length w.taken ≡ length v.taken + 1 = ap (λ u. length u.taken) is ∙ length-append v.taken (y ∷ []) in
    let marks : w.marks_taken ≡ v.marks_taken = ap (λ u. u.marks_taken) is in omega (arith, put, windows, marks, most)
one_less v w item.EndMark is most =
    let put : w.puts ≡ v.puts = ap (λ u. u.puts) is in
    let windows : length w.taken ≡ length v.taken = ap (λ u. length u.taken) is in
    let marks : w.marks_taken ≡ v.marks_taken + 1 = ap (λ u. u.marks_taken) is in omega (arith, put, windows, marks, most)

pub pop_less : (old new : Slots) (v w : PassView) → Pops old new v w → items_taken w ≤ w.puts → (WasEmpty v → ⊥) → w.puts - items_taken w < v.puts - items_taken v
pop_less old new v w (inl h) most never = absurd (never h.0)
pop_less old new v w (inr h) most _ = one_less v w h.0 h.1 most
