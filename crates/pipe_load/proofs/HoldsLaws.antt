-- What stands in the slots, and what a step on them leaves standing.
use Rattle.std.proofs.Common.{◌≡◌, ◌≢◌, ℕ, ◌+◌, ◌-◌, ◌<◌, ◌≤◌, inl, inr, List, [], ◌∷◌, ◌++◌, length, get_or, set, vec_len, true, All, refl, sym, ap, ◌∙◌, subst, arith, length-append, append_assoc, get_or-set_same, get_or-set_other}
use Rattle.std.specs.Prelude.{Option, Some, None, is_some}
use Rattle.std.proofs.lemmas.Bool.{cases_eq}
use Rattle.std.proofs.lemmas.List.{set-get_or}
use Rattle.std.proofs.lemmas.List.Elements.{All-append, All-cons, All-nil, All-push}
use Rattle.pipe_load.specs.declared.pass_view.PassView.{PassView}
use Rattle.pipe_load.specs.declared.scanner.Kept.{Kept}
use Rattle.pipe_load.specs.declared.slots.Slots.{Slots}
use Rattle.pipe_load.specs.declared.window.Item.{Item}
use Rattle.pipe_load.specs.declared.window.Item.TheVariants as item
use Rattle.pipe_load.specs.declared.window.Window.{Window}
use Rattle.pipe_load.specs.Feeding.{AreNumbered}
use Rattle.pipe_load.specs.PassViews.{after_take}
use Rattle.pipe_load.specs.Slots.{slot_of, Holds, HoldsAll, Stays, ComesInHand, Pops, IsAllHeld}
use Rattle.pipe_load.proofs.LoadLaws.{number_behind}
use Rattle.pipe_load.proofs.ScanningLaws.{all_more}

-- ---- a list of which a loop takes one entry after another, from the end or from the front, and does something to each

pub done_last : {A : Type 0} (P : A → Type 0) (all left rest done : List A) (x : A) → all ≡ left ++ done → left ≡ rest ++ x ∷ [] → P x → All P done → (now : List A) × (all ≡ rest ++ now) × All P now
done_last P all left rest done x is popped p h = (x ∷ done, is ∙ ap (λ xs. xs ++ done) popped ∙ append_assoc rest (x ∷ []) done, All-cons P x done p h)

pub done_first : {A : Type 0} (P : A → Type 0) (all left rest done : List A) (x : A) → all ≡ done ++ left → left ≡ x ∷ rest → P x → All P done → (now : List A) × (all ≡ now ++ rest) × All P now
done_first P all left rest done x is popped p h = (done ++ x ∷ [], is ∙ ap (λ xs. done ++ xs) popped ∙ sym (append_assoc done (x ∷ []) rest), All-push P done x h p)

pub none_left : {A : Type 0} (P : A → Type 0) (all left done : List A) → all ≡ left ++ done → length left ≡ 0 → All P done → All P all
none_left P all [] done is none h = subst (All P) (sym is) h
none_left P all (x ∷ xs) done is none h = absurd (let never : ⊥ = omega (arith, none) in never)

pub none_behind : {A : Type 0} (P : A → Type 0) (all left done : List A) → all ≡ done ++ left → length left ≡ 0 → All P done → All P all
none_behind P all [] done is none h = subst (All P) (sym is) (All-append P done [] h (All-nil P))
none_behind P all (x ∷ xs) done is none h = absurd (let never : ⊥ = omega (arith, none) in never)

-- ---- one slot

module _ (old new : Slots) (n : ℕ) where
  -- what is put under a number stands there, with what stood
  pub put_holds : (kept : Kept) → new.slots.items ≡ set old.slots.items n (Some kept) → n < vec_len old.slots → Holds new n
  put_holds kept is lt = ap is_some (ap (λ xs. get_or xs n None) is ∙ get_or-set_same old.slots.items n (Some kept) None (omega (arith, lt, old.slots.ok.0)))

  pub put_stays : (kept : Kept) → new.slots.items ≡ set old.slots.items n (Some kept) → n < vec_len old.slots → Stays old new
  put_stays kept is lt k was = elim (cases_eq k n) [
    | inl here ↦ subst (Holds new) (sym here) (put_holds kept is lt)
    | inr apart ↦ ap is_some (ap (λ xs. get_or xs k None) is ∙ get_or-set_other old.slots.items n k (Some kept) None apart) ∙ was
  ]

  -- where one is taken the others stay
  pub others_stay : new.slots.items ≡ set old.slots.items n None → (k : ℕ) → k ≢ n → Holds old k → Holds new k
  others_stay is k apart was = ap is_some (ap (λ xs. get_or xs k None) is ∙ get_or-set_other old.slots.items n k None None apart) ∙ was

  -- from an empty slot nothing is taken
  pub nothing_taken : slot_of old n ≡ None → new.slots.items ≡ set old.slots.items n None → new.slots.items ≡ old.slots.items
  nothing_taken none is = is ∙ ap (λ (o : Option Kept). set old.slots.items n o) (sym none) ∙ set-get_or old.slots.items n None

  pub taken_held : (v : PassView) → new.slots.items ≡ set old.slots.items n None → vec_len new.slots ≡ vec_len old.slots → IsAllHeld n old v → IsAllHeld (n + 1) new v
  taken_held v is long h = record {
    joined = h.joined;
    taken = λ k d lt from. others_stay is _ (omega (arith, from)) (h.taken k d lt (omega (arith, from)));
    behind = λ k from put lt. others_stay is k (omega (arith, from)) (h.behind k (omega (arith, from)) put (omega (arith, lt, long)));
  }

-- ---- several slots

pub same_stay : (old new : Slots) → new.slots.items ≡ old.slots.items → Stays old new
same_stay old new is k was = subst (λ (xs : List (Option Kept)). is_some (get_or xs k None) ≡ true) (sym is) was

pub all_stay : (old new : Slots) (ws : List Window) → Stays old new → HoldsAll old ws → HoldsAll new ws
all_stay old new ws stays h k d lt = stays _ (h k d lt)

pub held_stays : (from : ℕ) (old new : Slots) (v : PassView) → Stays old new → vec_len new.slots ≡ vec_len old.slots → IsAllHeld from old v → IsAllHeld from new v
held_stays from old new v stays long h = record {
  joined = h.joined;
  taken = λ k d lt low. stays _ (h.taken k d lt low);
  behind = λ k low put lt. stays k (h.behind k low put (omega (arith, lt, long)));
}

-- ---- an item that was popped

comes_stays : (old new : Slots) (x : Item) → ComesInHand old new x → Stays old new
comes_stays old new (item.Window w) h = h.1
comes_stays old new item.EndMark h = same_stay old new (ap (λ (s : Slots). s.slots.items) h)

pub pop_stays : (old new : Slots) (v w : PassView) → Pops old new v w → Stays old new
pop_stays old new v w (inl h) = same_stay old new (ap (λ (s : Slots). s.slots.items) h.2)
pop_stays old new v w (inr h) = comes_stays old new h.0 h.2

comes_held : (from : ℕ) (old new : Slots) (v : PassView) (x : Item) → ComesInHand old new x → vec_len new.slots ≡ vec_len old.slots → IsAllHeld from old v → IsAllHeld from new (after_take v x)
comes_held from old new v (item.Window w) h long held =
    let still : IsAllHeld from new v = held_stays from old new v h.1 long held in record {
      joined = still.joined;
      taken = all_more (λ (u : Window). from ≤ u.number → Holds new u.number) v.taken (v.taken ++ w ∷ []) w refl still.taken (λ _. h.0);
      behind = still.behind;
    }
comes_held from old new v item.EndMark h long held =
    let still : IsAllHeld from new v = held_stays from old new v (comes_stays old new item.EndMark h) long held in record {
      joined = still.joined;
      taken = still.taken;
      behind = still.behind;
    }

pub pop_held : (from : ℕ) (old new : Slots) (v w : PassView) → Pops old new v w → vec_len new.slots ≡ vec_len old.slots → IsAllHeld from old v → IsAllHeld from new w
pop_held from old new v w (inl h) long held = subst (IsAllHeld from new) (sym h.1) (held_stays from old new v (pop_stays old new v w (inl h)) long held)
pop_held from old new v w (inr h) long held = subst (IsAllHeld from new) (sym h.1) (comes_held from old new v h.0 h.2 long held)

pub none_held : (slots : Slots) (ws : List Window) → ws ≡ [] → HoldsAll slots ws
none_held slots ws none = subst (HoldsAll slots) (sym none) (All-nil _)

-- where no stage is apart, and all windows stand that the pass took and that wait, nothing is lost
pub all_held : (put waiting : List Window) (slots : Slots) (v : PassView) → AreNumbered (put ++ waiting) → v.put ≡ put → v.stages ≡ 0 → vec_len slots.slots ≡ length (put ++ waiting) → HoldsAll slots v.taken → HoldsAll slots waiting → IsAllHeld 0 slots v
all_held put waiting slots v numbered is joined long took waits = record {
  joined = joined;
  taken = λ k d lt _. took k d lt;
  behind = λ k _ low lt.
      let lengths : length v.put ≡ length put = ap length is in
      let none : Window = record { number = 0; bytes = [] } in
      let place : ℕ = k - length put in
      let within : place < length waiting = omega (arith, lt, low, lengths, long, length-append put waiting) in
      let number : (get_or waiting place none).number ≡ k = omega (arith, number_behind put waiting numbered place none within, low, lengths) in
      subst (Holds slots) number (waits place none within);
}
